use Rattle.std.proofs.Common.{refl}
use Rattle.http_text.specs.Path.{with_file_routes}
use Rattle.http_text.proofs.routes.add_file_routes.Goals as goal

pub returns : goal.returns
unfolding with_file_routes
returns c = rw (c.in_ok-add-5.ensures, c.in_ok-add-4.ensures, c.in_ok-add-3.ensures, c.in_ok-add-2.ensures, c.in_ok-add.ensures) refl
