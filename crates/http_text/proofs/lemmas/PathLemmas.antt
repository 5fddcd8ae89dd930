-- Lemmas on paths: the texts of the routes and of an ASCII path are text, and what a parameter takes is no longer than the path.
use Rattle.std.proofs.Common.{◌≡◌, ℕ, zero, suc, ◌-◌, ◌<◌, ◌≤◌, ◌==◌, Bool, true, false, cond, List, [], ◌∷◌, length, take, drop, get_or, Option, Some, None, refl, ap, subst, arith, length-take, length-drop}
use Rattle.std.specs.Prelude.{nat_lt, not, ◌||◌}
use Rattle.std.specs.List.{list_all}
use Rattle.std.specs.Str.{IsAscii}
use Rattle.std.proofs.lemmas.Str.{IsUtf8-from_ascii}
use Rattle.std.proofs.lemmas.Str.Ascii.{IsAscii-from_all, All-from_ascii, IsAscii-nil}
use Rattle.std.proofs.lemmas.List.Sums.{AllPass-from_list_all}
use Rattle.std.proofs.lemmas.List.Elements.{All-take, All-drop}
use Rattle.std.proofs.lemmas.Bool.{and_parts}
use Rattle.std.proofs.lemmas.Bool.Decides.{nat_tests}
use Rattle.std.proofs.lemmas.Option.{same_Some, none-some}
use Rattle.matchit.specs.Rows.{RowsOf, param_token, catch_all_token}
use Rattle.matchit.specs.Seek.{seek, first, step, own, or_else, param_step, with_suffix, longest_suffix, segment, same_text, has_slash}
use Rattle.matchit.specs.Params.{walk, part_of, wild_from, wild_stop, AllText, named}
use Rattle.matchit.specs.Router.{RouteOf}
use Rattle.matchit.proofs.OnLiterals.{matchit_on_literals}
use Rattle.http_text.specs.declared.routes.Route.{Route}
use Rattle.http_text.specs.Path.{office_routes, is_path, is_path_byte, with_book_routes, with_file_routes}

-- ---- what holds of each route holds of the one that is found

module _ {K : Type 0} (P : K → Type 0) where
  abbrev pub AllKeys : RowsOf K → Type 0
  AllKeys [] = Unit {0}
  AllKeys ((t, key) ∷ rest) = P key × AllKeys rest

  both_rows : (test : Bool) (xs ys : RowsOf K) → AllKeys xs → AllKeys ys → AllKeys (cond test xs ys)
  both_rows true xs ys a b = a
  both_rows false xs ys a b = b

  step_keys : (b : ℕ) (rs : RowsOf K) → AllKeys rs → AllKeys (step b rs)
  step_keys b [] a = tt
  step_keys b (([], key) ∷ rest) a = step_keys b rest a.1
  step_keys b ((x ∷ t, key) ∷ rest) a =
      both_rows (x == b) ((t, key) ∷ step b rest) (step b rest) (a.0, step_keys b rest a.1) (step_keys b rest a.1)

  suffix_keys : (suffix : List ℕ) (rs : RowsOf K) → AllKeys rs → AllKeys (with_suffix suffix rs)
  suffix_keys suffix [] a = tt
  suffix_keys suffix ((t, key) ∷ rest) a =
      both_rows (same_text (segment t) suffix) ((t, key) ∷ with_suffix suffix rest) (with_suffix suffix rest)
      (a.0, suffix_keys suffix rest a.1) (suffix_keys suffix rest a.1)

  both_pairs : (test : Bool) (x y : ℕ × RowsOf K) → AllKeys x.1 → AllKeys y.1 → AllKeys (cond test x y).1
  both_pairs true x y a b = a
  both_pairs false x y a b = b

  param_keys : (rs : RowsOf K) (path : List ℕ) → AllKeys rs → AllKeys (param_step rs path).1
  unfolding param_step
  param_keys rs path a =
      both_pairs _ _ _ (suffix_keys (longest_suffix (segment path) rs) rs a) (both_pairs (has_slash path) (0, []) (length path, rs) tt a)

  own_keys : (rs : RowsOf K) (key : K) → own rs ≡ Some key → AllKeys rs → P key
  own_keys [] key e a = absurd (none-some key e)
  own_keys (([], k) ∷ rest) key e a = subst P (same_Some k key e) a.0
  own_keys ((x ∷ t, k) ∷ rest) key e a = own_keys rest key e a.1

  else_keys : (one other : Option K) (key : K) → or_else one other ≡ Some key → (one ≡ Some key → P key) → (other ≡ Some key → P key) → P key
  else_keys None other key e p q = q e
  else_keys (Some k) other key e p q = p e

  seek_keys : (skip : ℕ) (rs : RowsOf K) (path : List ℕ) (key : K) → seek skip rs path ≡ Some key → AllKeys rs → P key
  unfolding seek
  seek_keys zero rs [] key e a = own_keys rs key e a
  seek_keys (suc skip) rs [] key e a = own_keys rs key e a
  seek_keys (suc skip) rs (b ∷ path) key e a = seek_keys skip rs path key e a
  seek_keys zero rs (b ∷ path) key e a =
      else_keys _ _ key e (λ f. seek_keys 0 (step b rs) path key f (step_keys b rs a))
      (λ f. else_keys _ _ key f
      (λ g. seek_keys _ _ path key g (param_keys (step param_token rs) (b ∷ path) (step_keys param_token rs a)))
      (λ g. own_keys (step catch_all_token rs) key g (step_keys catch_all_token rs a)))

-- ---- ASCII parts are text

abbrev pub is_ascii_text : List ℕ → Bool
is_ascii_text bytes = list_all (λ b. nat_lt b 128) bytes

pub ascii_from_test : (bytes : List ℕ) → is_ascii_text bytes ≡ true → IsAscii bytes
ascii_from_test bytes e = IsAscii-from_all bytes (λ k d l. grind (arith, nat_tests, AllPass-from_list_all (λ b. nat_lt b 128) bytes e k d l))

pub ascii_from_path : (target : List ℕ) → is_path target ≡ true → IsAscii target
ascii_from_path target e =
    IsAscii-from_all target
    (λ k d l. path_byte (get_or target k d) (AllPass-from_list_all is_path_byte target e k d l))
  where
    path_byte : (b : ℕ) → is_path_byte b ≡ true → b < 128
    path_byte b t = let p = (and_parts (nat_lt b 128) (not (b == 63 || b == 35)) t).0 in grind (arith, nat_tests)

part_ascii : (bytes : List ℕ) (start end : ℕ) → IsAscii bytes → IsAscii (part_of bytes start end)
part_ascii bytes start end a = cut_ascii _ bytes (end - start) start a
  where
    cut_ascii : (test : Bool) (bs : List ℕ) (n m : ℕ) → IsAscii bs → IsAscii (cond test (take n (drop m bs)) [])
    cut_ascii true bs n m h = IsAscii-from_all _ (All-take (λ b. b < 128) n (drop m bs) (All-drop (λ b. b < 128) m bs (All-from_ascii bs h)))
    cut_ascii false bs n m h = IsAscii-nil

pub AllText-walk : (pattern text path : List ℕ) (names : List (ℕ × ℕ)) (token at : ℕ) → IsAscii text → IsAscii path
    → AllText (walk pattern text path names token at)
AllText-walk pattern text path [] token at t p = tt
AllText-walk pattern text path (name ∷ rest) token at t p = (
  IsUtf8-from_ascii _ (part_ascii text name.0 name.1 t),
  IsUtf8-from_ascii _ (part_ascii path _ _ p),
  AllText-walk pattern text path rest _ _ t p,
)

-- the texts of the routes are ASCII
routes_ascii : AllKeys (λ (route : RouteOf Route). is_ascii_text route.text ≡ true) office_routes
unfolding office_routes with_book_routes with_file_routes matchit_on_literals
routes_ascii = (refl, (refl, (refl, (refl, (refl, (refl, (refl, (refl, (refl, (refl, tt))))))))))

pub route_text : (path : List ℕ) (route : RouteOf Route) → first office_routes path ≡ Some route → IsAscii path
    → AllText (walk route.pattern route.text path route.names 0 0)
route_text path route e a =
    AllText-walk route.pattern route.text path route.names 0 0
    (ascii_from_test route.text (seek_keys (λ (r : RouteOf Route). is_ascii_text r.text ≡ true) 0 office_routes path route e routes_ascii)) a

-- ---- lengths

part_short : (bytes : List ℕ) (start end : ℕ) → length (part_of bytes start end) ≤ length bytes
part_short bytes start end = cut_short _ bytes (end - start) start
  where
    cut_short : (test : Bool) (bs : List ℕ) (n m : ℕ) → length (cond test (take n (drop m bs)) []) ≤ length bs
    cut_short true bs n m = omega (arith, length-take n (drop m bs), length-drop m bs)
    cut_short false bs n m = omega arith

pub named_short : (key value pattern text path : List ℕ) (names : List (ℕ × ℕ)) (token at : ℕ)
    → named key (walk pattern text path names token at) ≡ Some value → length value ≤ length path
named_short key value pattern text path [] token at e = absurd (none-some value e)
named_short key value pattern text path (name ∷ rest) token at e =
    this_or_later (same_text (part_of text name.0 name.1) key) _ _ e
    (λ f. let same = same_Some _ value f in let short = part_short path (wild_from (drop token pattern) (length path) token at).1 (wild_stop pattern (wild_from (drop token pattern) (length path) token at).0 path (wild_from (drop token pattern) (length path) token at).1) in omega (arith, ap length same, short))
    (λ f. named_short key value pattern text path rest _ _ f)
  where
    this_or_later : (test : Bool) (x y : Option (List ℕ)) → cond test x y ≡ Some value → (x ≡ Some value → length value ≤ length path) → (y ≡ Some value → length value ≤ length path) → length value ≤ length path
    this_or_later true x y f p q = p f
    this_or_later false x y f p q = q f
