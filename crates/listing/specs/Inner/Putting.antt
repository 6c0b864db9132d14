-- A text put on a page where it fits, and the digits of a number before they are put.
-- Assumes nothing.
use Rattle.std.specs.Prelude.{ℕ, ◌+◌, ◌<◌, ◌≤◌, List, ◌≡◌, length, drop}
use Rattle.buffers.specs.Laying.{patch}
use Rattle.listing.specs.Decimal.{digits, decimal}
use Rattle.listing.specs.declared.text.Page.{Page}

-- a text put on a page, where it fits: the buffer is still the lent one, the text stands in it, and the next begins where it ends
pub record Puts (p : Page) (text : List ℕ) (q : Page) : Type 0 where
  pub same : q.bytes.ghost_name ≡ p.bytes.ghost_name
  pub content : q.bytes.now ≡ patch p.bytes.now p.made text
  pub place : q.made ≡ p.made + length text
  pub fits : p.made + length text ≤ length p.bytes.now
  pub size : length q.bytes.now ≡ length p.bytes.now

-- the digits are the last ones of all places
pub record Spelled (n : ℕ) (places : List ℕ) (i : ℕ) : Type 0 where
  pub text : drop i places ≡ decimal n
  pub size : length places ≡ digits
  pub begins : i < digits
