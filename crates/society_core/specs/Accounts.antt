-- When two accounts are one.
use Rattle.std.specs.Prelude.{Bool, true, false, ◌&&◌, bytes_eq}
use Rattle.work_ids.specs.declared.account.Account.{Account}
use Rattle.work_ids.specs.declared.account.Account.TheVariants.{Ipi, Party, Unclaimed}

-- whether two accounts are one: the same IPI name number, the same party of one sender, or both nobody's
abbrev pub same_account : Account → Account → Bool
same_account (Ipi a) (Ipi b) = bytes_eq a b
same_account (Party sender a) (Party other b) = bytes_eq sender other && bytes_eq a b
same_account Unclaimed Unclaimed = true
same_account (Ipi a) (Party other b) = false
same_account (Ipi a) Unclaimed = false
same_account (Party sender a) (Ipi b) = false
same_account (Party sender a) Unclaimed = false
same_account Unclaimed (Ipi b) = false
same_account Unclaimed (Party other b) = false
