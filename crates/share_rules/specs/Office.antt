-- Who the office is.
use Rattle.std.specs.Prelude.{ℕ, ◌≡◌, List, length, take}
use Rattle.work_ids.specs.Blanks.{fill}
pub use Rattle.share_rules.specs.OfficeLimits.{is_office}
use Rattle.share_rules.specs.declared.office.Office.{Office}

-- the office has this society, this territory and this name, filled with blanks (profile)
pub record IsOfficeOf (society territory : ℕ) (name : List ℕ) (office : Office) : Type 0 where
  pub society_is : office.society ≡ society
  pub territory_is : office.territory ≡ territory
  pub name_is : office.name ≡ fill 45 name
  pub name_length_is : office.name_length ≡ length name

-- the name without the blanks that fill it
abbrev pub name_of : Office → List ℕ
name_of office = take office.name_length office.name
