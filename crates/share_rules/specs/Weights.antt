-- Who holds a work, and with which weight it is paid.
use Rattle.std.specs.Prelude.{ℕ, ◌-◌, ◌≤◌, List, [], ◌∷◌, ◌++◌, Option, Some, None, Result, Ok, Err, map, max, if◌then◌else◌}
use Rattle.std.specs.List.{list_all, sum}
use Rattle.cwr_files.specs.declared.transmission.Transaction.{Transaction}
use Rattle.share_rules.specs.Fault.{sum_limit}
use Rattle.share_rules.specs.Parties.{Interest, collected, interests, share_in}
use Rattle.share_rules.specs.declared.holder.Holder.{Holder}
use Rattle.share_rules.specs.declared.kind.Kind.{Kind}
use Rattle.share_rules.specs.declared.office.Office.{Office}
use Rattle.work_ids.specs.Blanks.{is_blank_byte}
use Rattle.work_ids.specs.IpiName.{ipi_field_of}
use Rattle.work_ids.specs.PartyNumber.{party_number_of}
use Rattle.work_ids.specs.declared.account.Account.{Account}
use Rattle.work_ids.specs.declared.account.Account.TheVariants.{Ipi, Party, Unclaimed}
use Rattle.work_ids.specs.declared.fault.IdFault.{IdFault}

-- the account of a sender's number of a party, nobody's where it is blank (profile)
abbrev pub numbered_account : List ℕ → Result (List ℕ) IdFault → Account
numbered_account sender (Ok number) = if list_all is_blank_byte number then Unclaimed else Party sender number
numbered_account sender (Err fault) = Unclaimed

-- an account: the IPI name number's where there is one, else that of the sender's number of the party (profile)
abbrev pub account_by : List ℕ → Result (Option (List ℕ)) IdFault → Result (List ℕ) IdFault → Account
account_by sender (Ok (Some name)) number = Ipi name
account_by sender (Ok None) number = numbered_account sender number
account_by sender (Err fault) number = numbered_account sender number

-- a holder: an interested party's account, and its collection share of a right at the office (profile)
abbrev pub holder_of : Kind → List ℕ → Office → Interest → Holder
holder_of right sender office interest = record {
  account = account_by sender (ipi_field_of interest.party.ipi_name) (party_number_of interest.party.number);
  weight = share_in right (collected office interest);
}

-- the weights of some holders, added up
abbrev pub total : List Holder → ℕ
total holders = sum (map (λ h. h.weight) holders)

-- the whole of a right, in hundredths of a percent
abbrev pub whole_right : ℕ
whole_right = 10000

-- what nobody claims: what the weights leave of the whole (profile)
abbrev pub unclaimed_beside : List Holder → Holder
unclaimed_beside holders = let claimed = total holders in record { account = Unclaimed; weight = max whole_right claimed - claimed }

-- weights are the whole or, for what is let pass, up to the greatest sum (profile)
abbrev pub AreWholeWeights : List Holder → Type 0
AreWholeWeights holders = (whole_right ≤ total holders) × (total holders ≤ sum_limit)

-- the weights of a transaction in a right: its holders in record order, and behind them what nobody claims (profile)
unfoldable pub weights_of : Kind → List ℕ → Office → Transaction → List Holder
weights_of right sender office transaction =
    let holders = map (holder_of right sender office) (interests transaction.records) in holders ++ unclaimed_beside holders ∷ []
