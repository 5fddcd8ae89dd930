-- Worked values of what the program's words ask for, and that `clap`'s words on simple command lines hold of it.
use Rattle.std.specs.Prelude.{◌≡◌, [], ◌∷◌, refl, codes, false, true}
use Rattle.clap.proofs.OnLiterals.{clap_on_literals}
use Rattle.clap.specs.Faults.{is_simple_and_free}
use Rattle.clap.specs.Simple.{is_simple}
use Rattle.society_arguments.specs.CommandLine.{command_line}
use Rattle.society_arguments.specs.Words.{AsksAudit, AsksCredit, AsksHelp, AsksReplay, AsksServe, HasBadName, HasBadWords, asked}

pub simple : is_simple command_line ≡ true
unfolding clap_on_literals
simple = refl

pub simple_and_free : is_simple_and_free command_line ≡ true
unfolding clap_on_literals
simple_and_free = refl

replay : asked (codes "society" ∷ codes "replay" ∷ codes "--society" ∷ codes "900" ∷ codes "--territory" ∷ codes "40" ∷ codes "--name" ∷ codes "EXAMPLE SOCIETY" ∷ []) ≡ AsksReplay 900 40 (codes "EXAMPLE SOCIETY")
unfolding clap_on_literals
replay = refl

zeros_in_front : asked (codes "society" ∷ codes "replay" ∷ codes "--society" ∷ codes "00900" ∷ codes "--territory" ∷ codes "0040" ∷ codes "--name" ∷ codes "X" ∷ []) ≡ AsksReplay 900 40 (codes "X")
unfolding clap_on_literals
zeros_in_front = refl

plus_in_front : asked (codes "society" ∷ codes "replay" ∷ codes "--society" ∷ codes "+900" ∷ codes "--territory" ∷ codes "40" ∷ codes "--name" ∷ codes "X" ∷ []) ≡ AsksReplay 900 40 (codes "X")
unfolding clap_on_literals
plus_in_front = refl

-- the options stand in any order
turned : asked (codes "society" ∷ codes "replay" ∷ codes "--name" ∷ codes "X" ∷ codes "--territory" ∷ codes "40" ∷ codes "--society" ∷ codes "900" ∷ []) ≡ AsksReplay 900 40 (codes "X")
unfolding clap_on_literals
turned = refl

-- a name that begins with a dash stands behind an equals sign
after_equals : asked (codes "society" ∷ codes "replay" ∷ codes "--society=900" ∷ codes "--territory=40" ∷ codes "--name=-X" ∷ []) ≡ AsksReplay 900 40 (codes "-X")
unfolding clap_on_literals
after_equals = refl

greatest : asked (codes "society" ∷ codes "replay" ∷ codes "--society" ∷ codes "999" ∷ codes "--territory" ∷ codes "9999" ∷ codes "--name" ∷ codes "X" ∷ []) ≡ AsksReplay 999 9999 (codes "X")
unfolding clap_on_literals
greatest = refl

no_digits : asked (codes "society" ∷ codes "replay" ∷ codes "--society" ∷ [] ∷ codes "--territory" ∷ codes "40" ∷ codes "--name" ∷ codes "X" ∷ []) ≡ HasBadWords
unfolding clap_on_literals
no_digits = refl

no_society : asked (codes "society" ∷ codes "replay" ∷ codes "--society" ∷ codes "0" ∷ codes "--territory" ∷ codes "40" ∷ codes "--name" ∷ codes "X" ∷ []) ≡ HasBadWords
unfolding clap_on_literals
no_society = refl

past_the_societies : asked (codes "society" ∷ codes "replay" ∷ codes "--society" ∷ codes "1000" ∷ codes "--territory" ∷ codes "40" ∷ codes "--name" ∷ codes "X" ∷ []) ≡ HasBadWords
unfolding clap_on_literals
past_the_societies = refl

past_the_territories : asked (codes "society" ∷ codes "replay" ∷ codes "--society" ∷ codes "900" ∷ codes "--territory" ∷ codes "10000" ∷ codes "--name" ∷ codes "X" ∷ []) ≡ HasBadWords
unfolding clap_on_literals
past_the_territories = refl

no_name : asked (codes "society" ∷ codes "replay" ∷ codes "--society" ∷ codes "900" ∷ codes "--territory" ∷ codes "40" ∷ codes "--name" ∷ [] ∷ []) ≡ HasBadName
unfolding clap_on_literals
no_name = refl

-- words are looked at before the name
no_name_and_bad_words : asked (codes "society" ∷ codes "replay" ∷ codes "--society" ∷ codes "x" ∷ codes "--territory" ∷ codes "40" ∷ codes "--name" ∷ [] ∷ []) ≡ HasBadWords
unfolding clap_on_literals
no_name_and_bad_words = refl

society_missing : asked (codes "society" ∷ codes "replay" ∷ codes "--territory" ∷ codes "40" ∷ codes "--name" ∷ codes "X" ∷ []) ≡ HasBadWords
unfolding clap_on_literals
society_missing = refl

name_missing : asked (codes "society" ∷ codes "replay" ∷ codes "--society" ∷ codes "900" ∷ codes "--territory" ∷ codes "40" ∷ []) ≡ HasBadWords
unfolding clap_on_literals
name_missing = refl

society_twice : asked (codes "society" ∷ codes "replay" ∷ codes "--society" ∷ codes "900" ∷ codes "--society" ∷ codes "900" ∷ codes "--territory" ∷ codes "40" ∷ codes "--name" ∷ codes "X" ∷ []) ≡ HasBadWords
unfolding clap_on_literals
society_twice = refl

one_more : asked (codes "society" ∷ codes "replay" ∷ codes "--society" ∷ codes "900" ∷ codes "--territory" ∷ codes "40" ∷ codes "--name" ∷ codes "X" ∷ codes "Y" ∷ []) ≡ HasBadWords
unfolding clap_on_literals
one_more = refl

other_command : asked (codes "society" ∷ codes "report" ∷ codes "--society" ∷ codes "900" ∷ codes "--territory" ∷ codes "40" ∷ codes "--name" ∷ codes "X" ∷ []) ≡ HasBadWords
unfolding clap_on_literals
other_command = refl

nothing : asked (codes "society" ∷ []) ≡ HasBadWords
unfolding clap_on_literals
nothing = refl

help : asked (codes "society" ∷ codes "--help" ∷ []) ≡ AsksHelp
unfolding clap_on_literals
help = refl

help_of_a_command : asked (codes "society" ∷ codes "serve" ∷ codes "-h" ∷ []) ≡ AsksHelp
unfolding clap_on_literals
help_of_a_command = refl

no_help_command : asked (codes "society" ∷ codes "help" ∷ []) ≡ HasBadWords
unfolding clap_on_literals
no_help_command = refl

serve : asked (codes "society" ∷ codes "serve" ∷ codes "--db" ∷ codes "office.db" ∷ codes "--port" ∷ codes "8080" ∷ codes "--connections" ∷ codes "1000000" ∷ codes "--society" ∷ codes "900" ∷ codes "--territory" ∷ codes "40" ∷ codes "--name" ∷ codes "X" ∷ []) ≡ AsksServe (codes "office.db") false (record { port = 8080; connections = 1000000; patience = 300 }) 900 40 (codes "X")
unfolding clap_on_literals
serve = refl

serve_turned : asked (codes "society" ∷ codes "serve" ∷ codes "--name" ∷ codes "X" ∷ codes "--connections" ∷ codes "7" ∷ codes "--society" ∷ codes "900" ∷ codes "--port" ∷ codes "65535" ∷ codes "--db=office.db" ∷ codes "--territory" ∷ codes "40" ∷ []) ≡ AsksServe (codes "office.db") false (record { port = 65535; connections = 7; patience = 300 }) 900 40 (codes "X")
unfolding clap_on_literals
serve_turned = refl

no_port : asked (codes "society" ∷ codes "serve" ∷ codes "--db" ∷ codes "office.db" ∷ codes "--port" ∷ codes "0" ∷ codes "--connections" ∷ codes "1" ∷ codes "--society" ∷ codes "900" ∷ codes "--territory" ∷ codes "40" ∷ codes "--name" ∷ codes "X" ∷ []) ≡ HasBadWords
unfolding clap_on_literals
no_port = refl

past_the_ports : asked (codes "society" ∷ codes "serve" ∷ codes "--db" ∷ codes "office.db" ∷ codes "--port" ∷ codes "65536" ∷ codes "--connections" ∷ codes "1" ∷ codes "--society" ∷ codes "900" ∷ codes "--territory" ∷ codes "40" ∷ codes "--name" ∷ codes "X" ∷ []) ≡ HasBadWords
unfolding clap_on_literals
past_the_ports = refl

no_connections : asked (codes "society" ∷ codes "serve" ∷ codes "--db" ∷ codes "office.db" ∷ codes "--port" ∷ codes "8080" ∷ codes "--connections" ∷ codes "0" ∷ codes "--society" ∷ codes "900" ∷ codes "--territory" ∷ codes "40" ∷ codes "--name" ∷ codes "X" ∷ []) ≡ HasBadWords
unfolding clap_on_literals
no_connections = refl

too_many_connections : asked (codes "society" ∷ codes "serve" ∷ codes "--db" ∷ codes "office.db" ∷ codes "--port" ∷ codes "8080" ∷ codes "--connections" ∷ codes "1000001" ∷ codes "--society" ∷ codes "900" ∷ codes "--territory" ∷ codes "40" ∷ codes "--name" ∷ codes "X" ∷ []) ≡ HasBadWords
unfolding clap_on_literals
too_many_connections = refl

serve_without_a_port : asked (codes "society" ∷ codes "serve" ∷ codes "--db" ∷ codes "office.db" ∷ codes "--connections" ∷ codes "1" ∷ codes "--society" ∷ codes "900" ∷ codes "--territory" ∷ codes "40" ∷ codes "--name" ∷ codes "X" ∷ []) ≡ HasBadWords
unfolding clap_on_literals
serve_without_a_port = refl

replay_at_a_port : asked (codes "society" ∷ codes "replay" ∷ codes "--port" ∷ codes "8080" ∷ codes "--society" ∷ codes "900" ∷ codes "--territory" ∷ codes "40" ∷ codes "--name" ∷ codes "X" ∷ []) ≡ HasBadWords
unfolding clap_on_literals
replay_at_a_port = refl

serve_without_a_database : asked (codes "society" ∷ codes "serve" ∷ codes "--port" ∷ codes "8080" ∷ codes "--connections" ∷ codes "1" ∷ codes "--society" ∷ codes "900" ∷ codes "--territory" ∷ codes "40" ∷ codes "--name" ∷ codes "X" ∷ []) ≡ HasBadWords
unfolding clap_on_literals
serve_without_a_database = refl

replay_over_a_database : asked (codes "society" ∷ codes "replay" ∷ codes "--db" ∷ codes "office.db" ∷ codes "--society" ∷ codes "900" ∷ codes "--territory" ∷ codes "40" ∷ codes "--name" ∷ codes "X" ∷ []) ≡ HasBadWords
unfolding clap_on_literals
replay_over_a_database = refl

serve_existing : asked (codes "society" ∷ codes "serve" ∷ codes "--existing" ∷ codes "--db" ∷ codes "office.db" ∷ codes "--port" ∷ codes "8080" ∷ codes "--connections" ∷ codes "1" ∷ codes "--society" ∷ codes "900" ∷ codes "--territory" ∷ codes "40" ∷ codes "--name" ∷ codes "X" ∷ []) ≡ AsksServe (codes "office.db") true (record { port = 8080; connections = 1; patience = 300 }) 900 40 (codes "X")
unfolding clap_on_literals
serve_existing = refl

serve_patient : asked (codes "society" ∷ codes "serve" ∷ codes "--db" ∷ codes "office.db" ∷ codes "--port" ∷ codes "8080" ∷ codes "--patience" ∷ codes "20" ∷ codes "--connections" ∷ codes "1" ∷ codes "--society" ∷ codes "900" ∷ codes "--territory" ∷ codes "40" ∷ codes "--name" ∷ codes "X" ∷ []) ≡ AsksServe (codes "office.db") false (record { port = 8080; connections = 1; patience = 20 }) 900 40 (codes "X")
unfolding clap_on_literals
serve_patient = refl

no_patience : asked (codes "society" ∷ codes "serve" ∷ codes "--db" ∷ codes "office.db" ∷ codes "--port" ∷ codes "8080" ∷ codes "--patience" ∷ codes "0" ∷ codes "--connections" ∷ codes "1" ∷ codes "--society" ∷ codes "900" ∷ codes "--territory" ∷ codes "40" ∷ codes "--name" ∷ codes "X" ∷ []) ≡ HasBadWords
unfolding clap_on_literals
no_patience = refl

serve_existing_behind : asked (codes "society" ∷ codes "serve" ∷ codes "--db" ∷ codes "office.db" ∷ codes "--port" ∷ codes "8080" ∷ codes "--connections" ∷ codes "1" ∷ codes "--society" ∷ codes "900" ∷ codes "--territory" ∷ codes "40" ∷ codes "--name" ∷ codes "X" ∷ codes "--existing" ∷ []) ≡ AsksServe (codes "office.db") true (record { port = 8080; connections = 1; patience = 300 }) 900 40 (codes "X")
unfolding clap_on_literals
serve_existing_behind = refl

existing_twice : asked (codes "society" ∷ codes "serve" ∷ codes "--existing" ∷ codes "--existing" ∷ codes "--db" ∷ codes "office.db" ∷ codes "--port" ∷ codes "8080" ∷ codes "--connections" ∷ codes "1" ∷ codes "--society" ∷ codes "900" ∷ codes "--territory" ∷ codes "40" ∷ codes "--name" ∷ codes "X" ∷ []) ≡ HasBadWords
unfolding clap_on_literals
existing_twice = refl

existing_with_a_value : asked (codes "society" ∷ codes "serve" ∷ codes "--existing=true" ∷ codes "--db" ∷ codes "office.db" ∷ codes "--port" ∷ codes "8080" ∷ codes "--connections" ∷ codes "1" ∷ codes "--society" ∷ codes "900" ∷ codes "--territory" ∷ codes "40" ∷ codes "--name" ∷ codes "X" ∷ []) ≡ HasBadWords
unfolding clap_on_literals
existing_with_a_value = refl

replay_existing : asked (codes "society" ∷ codes "replay" ∷ codes "--existing" ∷ codes "--society" ∷ codes "900" ∷ codes "--territory" ∷ codes "40" ∷ codes "--name" ∷ codes "X" ∷ []) ≡ HasBadWords
unfolding clap_on_literals
replay_existing = refl

audit : asked (codes "society" ∷ codes "audit" ∷ codes "--db" ∷ codes "office.db" ∷ codes "--society" ∷ codes "900" ∷ codes "--territory" ∷ codes "40" ∷ codes "--name" ∷ codes "X" ∷ []) ≡ AsksAudit (codes "office.db") 900 40 (codes "X")
unfolding clap_on_literals
audit = refl

audit_turned : asked (codes "society" ∷ codes "audit" ∷ codes "--society" ∷ codes "900" ∷ codes "--territory" ∷ codes "40" ∷ codes "--name" ∷ codes "X" ∷ codes "--db=office.db" ∷ []) ≡ AsksAudit (codes "office.db") 900 40 (codes "X")
unfolding clap_on_literals
audit_turned = refl

audit_without_a_database : asked (codes "society" ∷ codes "audit" ∷ codes "--society" ∷ codes "900" ∷ codes "--territory" ∷ codes "40" ∷ codes "--name" ∷ codes "X" ∷ []) ≡ HasBadWords
unfolding clap_on_literals
audit_without_a_database = refl

audit_at_a_port : asked (codes "society" ∷ codes "audit" ∷ codes "--db" ∷ codes "office.db" ∷ codes "--port" ∷ codes "8080" ∷ codes "--society" ∷ codes "900" ∷ codes "--territory" ∷ codes "40" ∷ codes "--name" ∷ codes "X" ∷ []) ≡ HasBadWords
unfolding clap_on_literals
audit_at_a_port = refl

audit_existing : asked (codes "society" ∷ codes "audit" ∷ codes "--existing" ∷ codes "--db" ∷ codes "office.db" ∷ codes "--society" ∷ codes "900" ∷ codes "--territory" ∷ codes "40" ∷ codes "--name" ∷ codes "X" ∷ []) ≡ HasBadWords
unfolding clap_on_literals
audit_existing = refl

help_of_the_audit : asked (codes "society" ∷ codes "audit" ∷ codes "--help" ∷ []) ≡ AsksHelp
unfolding clap_on_literals
help_of_the_audit = refl

credit : asked (codes "society" ∷ codes "credit" ∷ codes "--db" ∷ codes "office.db" ∷ codes "--society" ∷ codes "900" ∷ codes "--territory" ∷ codes "40" ∷ codes "--name" ∷ codes "X" ∷ []) ≡ AsksCredit (codes "office.db") 900 40 (codes "X")
unfolding clap_on_literals
credit = refl

credit_turned : asked (codes "society" ∷ codes "credit" ∷ codes "--society" ∷ codes "900" ∷ codes "--territory" ∷ codes "40" ∷ codes "--name" ∷ codes "X" ∷ codes "--db=office.db" ∷ []) ≡ AsksCredit (codes "office.db") 900 40 (codes "X")
unfolding clap_on_literals
credit_turned = refl

credit_without_a_database : asked (codes "society" ∷ codes "credit" ∷ codes "--society" ∷ codes "900" ∷ codes "--territory" ∷ codes "40" ∷ codes "--name" ∷ codes "X" ∷ []) ≡ HasBadWords
unfolding clap_on_literals
credit_without_a_database = refl

credit_at_a_port : asked (codes "society" ∷ codes "credit" ∷ codes "--db" ∷ codes "office.db" ∷ codes "--port" ∷ codes "8080" ∷ codes "--society" ∷ codes "900" ∷ codes "--territory" ∷ codes "40" ∷ codes "--name" ∷ codes "X" ∷ []) ≡ HasBadWords
unfolding clap_on_literals
credit_at_a_port = refl

credit_existing : asked (codes "society" ∷ codes "credit" ∷ codes "--existing" ∷ codes "--db" ∷ codes "office.db" ∷ codes "--society" ∷ codes "900" ∷ codes "--territory" ∷ codes "40" ∷ codes "--name" ∷ codes "X" ∷ []) ≡ HasBadWords
unfolding clap_on_literals
credit_existing = refl

help_of_the_credit : asked (codes "society" ∷ codes "credit" ∷ codes "--help" ∷ []) ≡ AsksHelp
unfolding clap_on_literals
help_of_the_credit = refl
