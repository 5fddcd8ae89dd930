-- The command line answers with help, or refuses the words: never the one and the other at the same words.
use Rattle.std.proofs.Common.{◌≡◌, ◌∙◌, ◌&&◌, ◌||◌, ◌==◌, nat_lt, ℕ, Bool, Option, List, true, false, not, refl, sym, subst, inl, inr, [], ◌∷◌, Some, None, zero, suc, if◌then◌else◌, codes, bytes_eq, find, length, drop, ap}
use Rattle.std.specs.List.{list_all, list_any}
use Rattle.std.specs.Prelude.{encode_utf8, slice_get}
use Rattle.std.specs.Option.{option_map_or}
use Rattle.std.specs.Str.{chars}
use Rattle.std.proofs.Math.Bool.{and-false, or-false}
use Rattle.clap.proofs.WalkLemmas.{both}
use Rattle.clap.specs.Lexer.{short_of}
use Rattle.clap.specs.Faults.{action_fault, built_fault, bundle_step_fault, check_fault, count_fault, default_fault, defaults_fault, entered_fault, fault_of, flag_word_fault, flags_fault, level_fault, long_fault, option_fault, other_fault, react_fault, repeat_fault, set_fault, settle_fault, short_fault, step_fault, stray_fault, turn_fault, use_fault, values_fault, walk_fault, word_fault}
use Rattle.clap.specs.Kinds.{IsAmong, Kinds, check_kinds, or_else, range_kinds, request_kinds, value_kinds, values_kinds}
use Rattle.clap.specs.Simple.{App, Shape, argument_words, built, label_of, names_of}
use Rattle.clap.specs.Walk.{Held, Names, Row, Rule, Step, Text, Waiting, Walk, answers_to, arg_by_id, arg_by_index, arg_by_long, arg_by_short, finished, nothing_held, settled, subcommand_met, value, walk, word_met, walk_from, walked, with_default}
use Rattle.clap.specs.Facts.{unwrap_or_range}
use Rattle.clap.specs.Walk.{action_of, most_values, values_or_missing}
use Rattle.clap.specs.Walk.{next, trailing, subcommand}
use Rattle.clap.specs.declared.builder.action.ArgAction.{ArgAction}
use Rattle.clap.specs.declared.builder.action.ArgAction.TheVariants as action
use Rattle.clap.specs.declared.builder.value_parser.ValueParser.{ValueParser}
use Rattle.clap.specs.declared.error.kind.ErrorKind.{ErrorKind}
use Rattle.clap.specs.declared.error.kind.ErrorKind.TheVariants as kind
use Rattle.clap.specs.Kinds.{HasKind}
use Rattle.clap.specs.Simple.{subcommand_of}
use Rattle.clap.specs.Values.{kind_of}
use Rattle.clap.specs.declared.error.Error.{Error}
use Rattle.society_arguments.specs.CommandLine.{command_line}
use Rattle.society_arguments.specs.Words.{AsksHelp, HasBadWords, IsRefusedAs, asked, asked_unless, is_help}

-- where help is among the kinds, there is nothing else among them
record Clear (kinds : Kinds) : Type 0 where
  pub only : list_any is_help kinds ≡ true → (k : ErrorKind) → IsAmong k kinds → k ≡ kind.DisplayHelp

help_is : (k : ErrorKind) → is_help k ≡ true → k ≡ kind.DisplayHelp
help_is kind.InvalidValue e = cc
help_is kind.UnknownArgument e = cc
help_is kind.InvalidSubcommand e = cc
help_is kind.NoEquals e = cc
help_is kind.ValueValidation e = cc
help_is kind.TooManyValues e = cc
help_is kind.TooFewValues e = cc
help_is kind.WrongNumberOfValues e = cc
help_is kind.ArgumentConflict e = cc
help_is kind.MissingRequiredArgument e = cc
help_is kind.MissingSubcommand e = cc
help_is kind.DisplayHelp e = refl
help_is kind.DisplayHelpOnMissingArgumentOrSubcommand e = cc
help_is kind.DisplayVersion e = cc
help_is kind.Io e = cc
help_is kind.Format e = cc
help_is kind.OutOfMemory e = cc

or_parts : (a b : Bool) → (a || b) ≡ false → (a ≡ false) × (b ≡ false)
or_parts true b e = cc
or_parts false b e = (refl, e)

no_help_among : (kinds : Kinds) (k : ErrorKind) → list_any is_help kinds ≡ false → k ≡ kind.DisplayHelp → IsAmong k kinds → ⊥
no_help_among [] k has help among = among
no_help_among (x ∷ xs) k has help among =
    let parts = or_parts (is_help x) (list_any is_help xs) has in
    elim among [
      | inl same ↦ (let this : is_help x ≡ true = ap is_help (sym same ∙ help) in cc)
      | inr more ↦ no_help_among xs k parts.1 help more
    ]

none : Clear []
none = record { only = λ has k among. absurd among }

one : (x : ErrorKind) → Clear (x ∷ [])
one x = record { only = λ has k among. elim among [ inl same ↦ same ∙ help_is x (sym (or-false (is_help x)) ∙ has) | inr more ↦ absurd more ] }

first : (a b : Kinds) → Clear a → Clear b → Clear (or_else a b)
first [] b ca cb = cb
first (k ∷ ks) b ca cb = ca

either : (t : Bool) (a b : Kinds) → Clear a → Clear b → Clear (if t then a else b)
either true a b ca cb = ca
either false a b ca cb = cb

within : {X : Type 0} (f : X → Kinds) (o : Option X) (d : Kinds) → ((x : X) → Clear (f x)) → Clear d → Clear (option_map_or f o d)
within f None d each rest = rest
within f (Some x) d each rest = each x

values : (ignore_case : Bool) (parser : ValueParser) (vs : List Text) → Clear (values_kinds ignore_case parser vs)
values i p [] = none
values i p (v ∷ vs) = first (value_kinds i p v) (values_kinds i p vs) (either _ _ _ none (one _)) (values i p vs)

range : (least most n : ℕ) → Clear (range_kinds least most n)
range least most n =
    either (nat_lt 0 least && n == 0) _ _ (one kind.InvalidValue)
    (either (least == most) _ _ (either (least == n) _ _ none (one kind.WrongNumberOfValues)) (either (nat_lt n least) _ _ (one kind.TooFewValues) (either (nat_lt most n) _ _ (one kind.TooManyValues) none)))

check : (a b c : Bool) → Clear (check_kinds a b c)
check true b c = one _
check false true c = one _
check false false true = one _
check false false false = none

request : (x : ArgAction) → Clear (request_kinds x)
request action.Set = none
request action.Append = none
request action.SetTrue = none
request action.SetFalse = none
request action.Count = none
request action.Help = one _
request action.HelpShort = one _
request action.HelpLong = one _
request action.Version = one _

of_values : (a : Rule) (vs : List Text) → Clear (values_fault a vs)
of_values a vs = values _ _ vs

of_count : (a : Rule) (vs : List Text) (rows : List Row) → Clear (count_fault a vs rows)
of_count a [] rows = either _ _ _ none (one _)
of_count a (v ∷ vs) rows = of_values a (v ∷ vs)

of_set : (again : Bool) (a : Rule) (vs : List Text) (rows : List Row) → Clear (set_fault again a vs rows)
of_set again a vs rows = first (repeat_fault again a.id rows) (values_fault a vs) (either _ _ _ (one _) none) (of_values a vs)

of_action : (x : ArgAction) (again : Bool) (a : Rule) (vs : List Text) (rows : List Row) → Clear (action_fault x again a vs rows)
of_action action.Set again a vs rows = of_set again a vs rows
of_action action.SetTrue again a vs rows = of_set again a vs rows
of_action action.SetFalse again a vs rows = of_set again a vs rows
of_action action.Append again a vs rows = of_values a vs
of_action action.Count again a vs rows = of_count a vs rows
of_action action.Help again a vs rows = one _
of_action action.HelpShort again a vs rows = one _
of_action action.HelpLong again a vs rows = one _
of_action action.Version again a vs rows = one _

of_use : (again : Bool) (a : Rule) (vs : List Text) (rows : List Row) → Clear (use_fault again a vs rows)
of_use again a vs rows =
    first _ _ (range (unwrap_or_range a.range).start_inclusive (most_values a) (length vs)) (of_action (action_of a) again a (values_or_missing a vs) rows)

of_settle : (c : List Rule) (again : Bool) (h : Held) → Clear (settle_fault c again h)
of_settle c again h = within _ h.pending [] (λ p. within _ (arg_by_id c p.0) [] (λ a. of_use again a p.1 h.rows) none) none

of_react : (c : List Rule) (again : Bool) (a : Rule) (vs : List Text) (h : Held) → Clear (react_fault c again a vs h)
of_react c again a vs h = first _ _ (of_settle c again h) (of_use again a vs _)

of_option : (c : List Rule) (again : Bool) (a : Rule) (v : Option Text) (h : Held) → Clear (option_fault c again a v h)
of_option c again a (Some v) h = of_react c again a (v ∷ []) h
of_option c again a None h = of_settle c again h

of_long : (c : List Rule) (again : Bool) (a : Option Rule) (v : Option Text) (h : Held) → Clear (long_fault c again a v h)
of_long c again None v h = one _
of_long c again (Some a) v h = either _ _ _ (of_option c again a v h) (either _ _ _ (one _) (of_react c again a [] h))

of_short : (c : List Rule) (again : Bool) (a : Option Rule) (rest : Text) (h : Held) (more : Held → Kinds) → ((h : Held) → Clear (more h)) → Clear (short_fault c again a rest h more)
of_short c again None rest h more each = one _
of_short c again (Some a) rest h more each = either _ _ _ (of_option c again a _ h) (first _ _ (of_react c again a [] h) (each _))

of_bundle_step : (c : List Rule) (again : Bool) (x : Option ℕ) (flags : Text) (skip : ℕ) (h : Held) (more : Text → ℕ → Held → Kinds)
    → ((flags : Text) (skip : ℕ) (h : Held) → Clear (more flags skip h)) → Clear (bundle_step_fault c again x flags skip h more)
of_bundle_step c again None flags skip h more each = none
of_bundle_step c again (Some x) flags zero h more each =
    let rest = drop (length (encode_utf8 x)) flags in
    of_short c again (arg_by_short c x) rest h (more rest 0) (each rest 0)
of_bundle_step c again (Some x) flags (suc skip) h more each = each _ skip h

of_flags : (c : List Rule) (again : Bool) (k : ℕ) (flags : Text) (skip : ℕ) (h : Held) → Clear (flags_fault c again k flags skip h)
unfolding flags_fault
of_flags c again zero flags skip h = none
of_flags c again (suc k) flags skip h = of_bundle_step c again (slice_get (chars flags) 0) flags skip h (flags_fault c again k) (of_flags c again k)

of_flag_word : (c : List Rule) (again : Bool) (p : Option (Text × Option Text)) (word : Text) (h : Held) → Clear (flag_word_fault c again p word h)
of_flag_word c again (Some p) word h = of_long c again (arg_by_long c p.0) p.1 h
of_flag_word c again None word h = within _ (short_of word) [] (λ flags. of_flags c again _ flags _ _) none

module _ (s : Shape) (no_help : s.disable_help_subcommand ≡ true) where
  of_other : (met : Option Text) (word : Text) (h : Held) → Clear (other_fault s met word h)
  of_other (Some name) word h =
      let off : (bytes_eq name (codes "help") && not s.disable_help_subcommand) ≡ false = rw no_help (and-false (bytes_eq name (codes "help"))) in
      subst (λ (t : Bool). Clear (if t then kind.DisplayHelp ∷ kind.InvalidSubcommand ∷ [] else [])) (sym off) none
  of_other None word h = either _ _ _ none (of_flag_word s.rules _ _ word h)

  of_word : (names : Names) (is_trailing : Bool) (waiting : Waiting) (word : Text) (h : Held) → Clear (word_fault s names is_trailing waiting word h)
  of_word names is_trailing waiting word h = either is_trailing _ _ none (of_other (subcommand_met names waiting word) word h)

  of_stray : Clear (stray_fault s)
  of_stray = either s.is_leaf _ _ (one _) (record { only = λ has. cc })

  of_step : (position : ℕ) (h : Held) (step : Step) → Clear (step_fault s position h step)
  of_step position h (next waiting) = none
  of_step position h (trailing p) = none
  of_step position h (subcommand name) = none
  of_step position h value = within _ (arg_by_index s.rules position) _ (λ a. either _ _ _ none (of_settle s.rules _ h)) of_stray

  of_turn : (names : Names) (w : Walk) (word : Text) → Clear (turn_fault s names w word)
  of_turn names w word =
      let met = word_met s.rules names w.is_trailing w.waiting w.position word w.held in
      either _ _ _ none (first _ _ (of_word names w.is_trailing w.waiting word w.held) (of_step w.position met.0 met.1))

  of_walk : (names : Names) (w : Walk) (words : List Text) → Clear (walk_fault s names w words)
  unfolding walk_fault
  of_walk names w [] = none
  of_walk names w (word ∷ rest) = first (turn_fault s names w word) (walk_fault s names (walked s.rules names w word) rest) (of_turn names w word) (of_walk names (walked s.rules names w word) rest)

  of_default : (rows : List Row) (a : Rule) → Clear (default_fault rows a)
  of_default rows a = either _ _ _ none (first _ _ (request _) (of_values a a.defaults))

  of_defaults : (rows : List Row) (rules : List Rule) → Clear (defaults_fault rows rules)
  unfolding defaults_fault
  of_defaults rows [] = none
  of_defaults rows (a ∷ rest) = first (default_fault rows a) (defaults_fault (with_default rows a) rest) (of_default rows a) (of_defaults (with_default rows a) rest)

  of_check : (rows : List Row) (has : Bool) → Clear (check_fault s rows has)
  of_check rows has = check _ _ _

  of_level : (names : Names) (h : Held) (words : List Text) (has : Bool) (below : Kinds) → Clear below → Clear (level_fault s names h words has below)
  of_level names h words has below clear =
      let end = (walk s.rules names h words).held in
      first _ _ (of_walk names (walk_from h) words)
      (first _ _ clear (first _ _ (of_settle s.rules s.args_override_self end) (first _ _ (of_defaults (settled s.rules end).rows s.rules) (of_check (finished s.rules end) has))))

found_at : (p q : Shape → Bool) (x : Shape) (xs : List Shape) (s : Shape) (t : Bool) → p x ≡ t → q x ≡ true → find p (x ∷ xs) ≡ Some s → (find p xs ≡ Some s → q s ≡ true) → q s ≡ true
found_at p q x xs s true is passes found rest = let same : x ≡ s = cc (rw is at found) in subst (λ (y : Shape). q y ≡ true) same passes
found_at p q x xs s false is passes found rest = rest (rw is at found)

found_passes : (p q : Shape → Bool) (xs : List Shape) (s : Shape) → list_all q xs ≡ true → find p xs ≡ Some s → q s ≡ true
found_passes p q [] s all found = cc
found_passes p q (x ∷ xs) s all found = found_at p q x xs s (p x) refl (both _ _ all).0 found (found_passes p q xs s (both _ _ all).1)

module _ (a : App) (top : a.top.disable_help_subcommand ≡ true) (subs : list_all (λ s. s.disable_help_subcommand) a.subs ≡ true) where
  of_found : (p : Shape → Bool) (o : Option Shape) (words : List Text) → find p a.subs ≡ o → Clear (option_map_or (λ s. level_fault s [] nothing_held words false []) o [])
  of_found p None words found = none
  of_found p (Some s) words found = of_level s (found_passes p (λ s. s.disable_help_subcommand) a.subs s subs found) [] nothing_held words false [] none

  of_entered : (stop : Option (Text × List Text)) → Clear (entered_fault a stop)
  of_entered stop = within _ stop [] (λ p. of_found (λ s. answers_to p.0 (label_of s)) (find (λ s. answers_to p.0 (label_of s)) a.subs) p.1 refl) none

  of_built : (h : Held) (words : List Text) → Clear (built_fault a h words)
  of_built h words = of_level a.top top (names_of a) h words _ _ (of_entered (walk a.top.rules (names_of a) h words).stopped)

of_command_line : (words : List Text) → Clear (fault_of command_line words)
of_command_line words = of_built (built command_line) refl refl nothing_held (argument_words command_line words)

asked_by_test : (t : Bool) (x : ErrorKind) (xs : Kinds) (k : ErrorKind) → list_any is_help (x ∷ xs) ≡ t → Clear (x ∷ xs) → IsAmong k (x ∷ xs)
    → IsRefusedAs (if t then AsksHelp else HasBadWords) k
asked_by_test true x xs k has clear among = inr (inl (clear.only has k among, refl))
asked_by_test false x xs k has clear among = inr (inr ((λ help. no_help_among (x ∷ xs) k has help among), refl))

asked_by_kind : (kinds : Kinds) (command : Option (Text × List Row)) (k : ErrorKind) → Clear kinds → IsAmong k kinds → IsRefusedAs (asked_unless kinds command) k
asked_by_kind [] command k clear among = absurd among
asked_by_kind (x ∷ xs) command k clear among = asked_by_test (list_any is_help (x ∷ xs)) x xs k refl clear among

-- what the command line says against the words is what they ask for
pub refused : (words : List Text) (e : Error) → HasKind (fault_of command_line words) e → IsRefusedAs (asked words) (kind_of e)
refused words e has = elim has [
  | inl memory ↦ inl memory
  | inr among ↦ asked_by_kind (fault_of command_line words) (subcommand_of command_line words) (kind_of e) (of_command_line words) among
]
