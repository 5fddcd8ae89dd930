-- Representation, not meaning: what a connection takes before its first read.
use Rattle.std.specs.Prelude.{◌≡◌}
use Rattle.http_desk.specs.declared.room.Room.{Room}
use Rattle.http_text.specs.Path.{office_routes}

-- it has the routes of the office
abbrev pub IsReady : Room → Type 0
IsReady room = room.router ≡ office_routes
