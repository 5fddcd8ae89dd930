use Rattle.std.proofs.Common.{ap, ◌∙◌}
use Rattle.http_text.specs.Path.{office_routes, with_book_routes, with_file_routes}
use Rattle.http_text.proofs.routes.office_router.Goals as goal

pub returns : goal.returns
unfolding office_routes
returns c = c.in_ok-add_book_routes.ensures ∙ ap with_book_routes (c.in_ok-add_file_routes.ensures ∙ ap with_file_routes c.new-router.ensures)
