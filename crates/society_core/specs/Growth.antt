-- How a sender's line goes on from one book to another.
use Rattle.std.specs.Prelude.{ℕ, List, ◌++◌, ◌≡◌, ◌≢◌, true}
use Rattle.sender_segments.specs.Ascends.{Ascends}
use Rattle.society_core.specs.Book.{Book, body_at, front, is_in_line, line}
use Rattle.society_core.specs.Headline.{AlikeToTheGap}

-- a sender's line goes on by some numbers, each behind its front, and the bodies that were in it stay; every other sender's line is the same with its bodies, and so are the returns and the pools
pub record GoesOn (a b : Book) (sender : List ℕ) (more : List ℕ) : Type 0 where
  pub grown : line b sender ≡ line a sender ++ more
  pub rises : Ascends (front a sender) more (front b sender)
  pub bodies : (n : ℕ) → is_in_line a sender n ≡ true → body_at b sender n ≡ body_at a sender n
  pub others : (other : List ℕ) → other ≢ sender → AlikeToTheGap a b other
  pub returns : b.returns ≡ a.returns
  pub pools : b.pools ≡ a.pools
