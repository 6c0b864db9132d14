-- Items gathered one after another: what is taken in goes on with what is open, or closes it and opens another; the rest passes.
-- Assumes nothing.
use Rattle.std.specs.Prelude.{◌≡◌, Bool, true, false, cond, List, [], ◌∷◌, ◌++◌, map}
use Rattle.gathering.specs.Lists.{flat, those, Cut}

-- I is what comes, J what is taken in of it, G what is open, with its buffer, or not, and O what is handed out
pub record Gatherer (I J G O : Type 0) : Type 0 where
  -- what is taken in, and as what
  pub takes : I → Bool
  pub item : I → J
  -- an item goes on with what is open: it is put there; or it opens another, alone
  pub goes_on : G → J → Bool
  pub puts : J → G → G
  pub opens : J → G
  -- what isn't taken in may change what is open
  pub passes : I → G → G
  -- what is handed out when it closes: nothing, where nothing is open
  pub closing : G → List O

-- what is handed out, from g on, and at the end
unfoldable pub gather : {I J G O : Type 0} → Gatherer I J G O → G → List I → List O
gather w g [] = w.closing g
gather w g (x ∷ xs) =
    cond (w.takes x)
    (cond (w.goes_on g (w.item x)) (gather w (w.puts (w.item x) g) xs) (w.closing g ++ gather w (w.opens (w.item x)) xs))
    (gather w (w.passes x g) xs)

-- the items taken in, in order
abbrev pub taken_by : {I J G O : Type 0} → Gatherer I J G O → List I → List J
taken_by w xs = map w.item (those w.takes xs)

-- Neighbours in one are related by R, neighbours in two by S; what has these items in it is handed out as `out`. So some cutting of
-- the items, in order, each once, is what is handed out.
pub record Grouped {J O : Type 0} (R S : J → J → Type 0) (out : List J → O) (ys : List J) (handed : List O) : Type 0 where
  pub groups : List (List J)
  pub is : handed ≡ map out groups
  pub whole : flat groups ≡ ys
  pub cut : Cut R S groups

-- What a gatherer has to keep for that (`gathered` in proofs/Grouping.antt), with xs to come: `Shut g xs`, where nothing is open, and
-- `Open h t p g xs`, where h ∷ t are in what is open, p the last of them.
pub record Gathers {I J G O : Type 0} (w : Gatherer I J G O) (R S : J → J → Type 0) (out : List J → O)
    (Shut : G → List I → Type 0) (Open : J → List J → J → G → List I → Type 0) : Type 0 where
  pub shut_closes : (g : G) (xs : List I) → Shut g xs → w.closing g ≡ []
  pub shut_passes : (g : G) (x : I) (xs : List I) → w.takes x ≡ false → Shut g (x ∷ xs) → Shut (w.passes x g) xs
  pub shut_opens : (g : G) (x : I) (xs : List I) → w.takes x ≡ true → Shut g (x ∷ xs)
      → (w.goes_on g (w.item x) ≡ false) × Open (w.item x) [] (w.item x) (w.opens (w.item x)) xs
  pub closes : (h : J) (t : List J) (p : J) (g : G) (xs : List I) → Open h t p g xs → w.closing g ≡ out (h ∷ t) ∷ []
  pub passes : (h : J) (t : List J) (p : J) (g : G) (x : I) (xs : List I) → w.takes x ≡ false → Open h t p g (x ∷ xs)
      → Open h t p (w.passes x g) xs
  pub joins : (h : J) (t : List J) (p : J) (g : G) (x : I) (xs : List I) → w.takes x ≡ true → w.goes_on g (w.item x) ≡ true
      → Open h t p g (x ∷ xs) → R p (w.item x) × Open h (t ++ (w.item x ∷ [])) (w.item x) (w.puts (w.item x) g) xs
  pub parts : (h : J) (t : List J) (p : J) (g : G) (x : I) (xs : List I) → w.takes x ≡ true → w.goes_on g (w.item x) ≡ false
      → Open h t p g (x ∷ xs) → S p (w.item x) × Open (w.item x) [] (w.item x) (w.opens (w.item x)) xs
