-- The check that the first column is 1, as its nodes have it.
use Rattle.std.proofs.Common.{◌≡◌, ◌≤◌, ℕ, zero, suc, pos, List, length, slice_index_or, sym, ap, subst, ◌∙◌, arith}
use Rattle.sqlite_value.specs.declared.value.Value.TheVariants.{Null, Int}
use Rattle.sqlite_sql.specs.Term.{Term, lit, col}
use Rattle.sqlite_schema.specs.declared.code.Op.{Op}
use Rattle.sqlite_schema.specs.declared.code.Op.TheVariants.{Literal, Column, Unary, Binary, Case}
use Rattle.sqlite_schema.specs.Code.{op_term, term_to, term_in}
use Rattle.society_rows.specs.Finding.{is_one, is_same}

abbrev node : List Op → ℕ → Op
node ops at = slice_index_or ops at (Literal Null)

-- a node that reads as the check
record Asks (below : ℕ → Term) (op : Op) : Type 0 where
  first : ℕ
  second : ℕ
  is : op ≡ Binary is_same first second
  column : below first ≡ col 1 0
  number : below second ≡ lit (Int (pos 1))

asks_of : (below : ℕ → Term) (op : Op) → op_term below op ≡ is_one → Asks below op
asks_of below (Literal v) e = absurd cc
asks_of below (Column slot at) e = absurd cc
asks_of below (Unary op a) e = absurd cc
asks_of below (Binary op a b) e =
    let same : op ≡ is_same = cc in
    record { first = a; second = b; is = ap (λ o. Binary o a b) same; column = cc; number = cc }
asks_of below (Case t a b) e = absurd cc

column_of_node : (below : ℕ → Term) (op : Op) → op_term below op ≡ col 1 0 → op ≡ Column 1 0
column_of_node below (Literal v) e = absurd cc
column_of_node below (Column slot at) e =
    let one : slot ≡ 1 = cc in
    let none : at ≡ 0 = cc in
    cc (one, none)
column_of_node below (Unary op a) e = absurd cc
column_of_node below (Binary op a b) e = absurd cc
column_of_node below (Case t a b) e = absurd cc

number_of_node : (below : ℕ → Term) (op : Op) → op_term below op ≡ lit (Int (pos 1)) → op ≡ Literal (Int (pos 1))
number_of_node below (Literal v) e = let same : v ≡ Int (pos 1) = cc in ap Literal same
number_of_node below (Column slot at) e = absurd cc
number_of_node below (Unary op a) e = absurd cc
number_of_node below (Binary op a b) e = absurd cc
number_of_node below (Case t a b) e = absurd cc

-- read to any depth
record IsRead (ops : List Op) (root : ℕ) : Type 0 where
  pub first : ℕ
  pub second : ℕ
  pub is : node ops root ≡ Binary is_same first second
  pub column : node ops first ≡ Column 1 0
  pub number : node ops second ≡ Literal (Int (pos 1))

read_to : (ops : List Op) (depth root : ℕ) → term_to ops depth root ≡ is_one → IsRead ops root × (2 ≤ depth)
read_to ops zero root e = absurd cc
read_to ops (suc zero) root e = let asks = asks_of (term_to ops zero) (node ops root) e in absurd (let never = asks.column in cc)
read_to ops (suc (suc depth)) root e =
    let asks = asks_of (term_to ops (suc depth)) (node ops root) e in (
      record {
        first = asks.first;
        second = asks.second;
        is = asks.is;
        column = column_of_node (term_to ops depth) (node ops asks.first) asks.column;
        number = number_of_node (term_to ops depth) (node ops asks.second) asks.number;
      },
      omega arith,
    )

written_to : (ops : List Op) (depth root a b : ℕ) → 2 ≤ depth → node ops root ≡ Binary is_same a b → node ops a ≡ Column 1 0 → node ops b ≡ Literal (Int (pos 1)) → term_to ops depth root ≡ is_one
written_to ops zero root a b deep is column number = absurd (omega arith)
written_to ops (suc zero) root a b deep is column number = absurd (omega arith)
written_to ops (suc (suc depth)) root a b deep is column number = rw (is, column, number)

pub asks_one : (ops : List Op) (root a b : ℕ) → 2 ≤ length ops → node ops root ≡ Binary is_same a b → node ops a ≡ Column 1 0 → node ops b ≡ Literal (Int (pos 1)) → term_in ops root ≡ is_one
asks_one ops = written_to ops (length ops)

pub one_asked : (ops : List Op) (root a b : ℕ) → node ops root ≡ Binary is_same a b → term_in ops root ≡ is_one → (node ops a ≡ Column 1 0) × (node ops b ≡ Literal (Int (pos 1)))
one_asked ops root a b is e =
    let read = (read_to ops (length ops) root e).0 in
    let both = sym read.is ∙ is in
    let first : read.first ≡ a = cc in
    let second : read.second ≡ b = cc in
    (subst (λ n. node ops n ≡ Column 1 0) first read.column, subst (λ n. node ops n ≡ Literal (Int (pos 1))) second read.number)
