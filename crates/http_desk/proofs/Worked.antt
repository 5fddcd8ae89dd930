-- Worked values: how a connection ends that has no further byte.
use Rattle.std.specs.Prelude.{◌≡◌, [], refl, codes}
use Rattle.http_text.specs.declared.connection_end.End.TheVariants.{Quiet, Bad}
use Rattle.http_desk.specs.Upcoming.{ended_with}

nothing_more : ended_with [] ≡ Quiet
nothing_more = refl

a_stray_line_end : ended_with (codes "\r\n") ≡ Bad
a_stray_line_end = refl
