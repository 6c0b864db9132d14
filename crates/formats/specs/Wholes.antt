-- Wholes are parts again: one part and then another, a part so many times, and a part whose value is seen as another or must pass
-- a test. Sizes and offsets follow from the parts in order: `ThenAt`, `TimesAt` and `TwosAt`.
-- Assumes nothing.
use Rattle.std.specs.Prelude.{Bool, true, cond, List, [], ◌∷◌, ◌++◌, ◌≡◌, ℕ, zero, suc, ◌+◌, ◌*◌, ◌<◌, ◌≤◌, eqb, length, get_or, take, drop}
use Rattle.std.proofs.Math.Option.{Option, none, some}
use Rattle.prelude.specs.Build.{build}
use Rattle.prelude.specs.Every.{Every}
use Rattle.buffers.specs.Laying.{patch}
use Rattle.formats.specs.Part.{Part, read_at}

infixr 4 ◌then◌
infixr 5 ◌times◌
infixr 5 ◌twos◌
-- of two values that may be missing
abbrev pub of_both : {A B C : Type 0} → (A → B → C) → Option A → Option B → Option C
of_both f (some a) (some b) = some (f a b)
of_both f (some a) none = none
of_both f none b = none

abbrev pub pair : {A B : Type 0} → A → B → A × B
pair a b = (a, b)

-- a part, and another after it
abbrev pub ◌then◌ : {A B : Type 0} → Part A → Part B → Part (A × B)
p then q = record {
  size = p.size + q.size;
  Holds = λ v. p.Holds v.0 × q.Holds v.1;
  write = λ v. p.write v.0 ++ q.write v.1;
  read = λ b. of_both pair (p.read (take p.size b)) (q.read (drop p.size b));
}

unfoldable pub write_all : {A : Type 0} → Part A → List A → List ℕ
write_all p [] = []
write_all p (x ∷ xs) = p.write x ++ write_all p xs

unfoldable pub read_all : {A : Type 0} → Part A → ℕ → List ℕ → Option (List A)
read_all p zero b = some []
read_all p (suc n) b = of_both ◌∷◌ (p.read (take p.size b)) (read_all p n (drop p.size b))

-- the part n times, one after another
abbrev pub ◌times◌ : {A : Type 0} → ℕ → Part A → Part (List A)
n times p = record {
  size = n * p.size;
  Holds = λ xs. (length xs ≡ n) × Every p.Holds xs;
  write = write_all p;
  read = read_all p n;
}

-- a value that may be missing seen as another, and missing where that fails the test
abbrev pub shown : {A B : Type 0} → (A → B) → (B → Bool) → Option A → Option B
shown to good none = none
shown to good (some a) = cond (good (to a)) (some (to a)) none

-- the part with its value seen as another, such as a record of named fields; it holds, and reads, only what passes the test
abbrev pub seen : {A B : Type 0} → (A → B) → (B → A) → (B → Bool) → Part A → Part B
seen to from good p = record {
  size = p.size;
  Holds = λ v. (good v ≡ true) × p.Holds (from v);
  write = λ v. p.write (from v);
  read = λ b. shown to good (p.read b);
}

-- the part with its own values, of which it holds only those that pass the test
abbrev pub limited : {A : Type 0} → (A → Bool) → Part A → Part A
limited = seen (λ v. v) (λ v. v)

-- a list two by two, where an odd one is left out; and pairs one by one
unfoldable pub by_twos : {A : Type 0} → List A → List (A × A)
by_twos [] = []
by_twos (x ∷ []) = []
by_twos (x ∷ (y ∷ xs)) = (x, y) ∷ by_twos xs

unfoldable pub one_by_one : {A : Type 0} → List (A × A) → List A
one_by_one [] = []
one_by_one (v ∷ vs) = v.0 ∷ (v.1 ∷ one_by_one vs)

-- n pairs, seen as a list of 2n
abbrev pub ◌twos◌ : {A : Type 0} → ℕ → Part (A × A) → Part (List A)
n twos p = seen one_by_one by_twos (λ xs. eqb (length xs) (2 * n)) (n times p)

-- the second part stands at the first one's size; written into a room one after another, the parts are the whole; and a whole is
-- read by its parts. Proved as `then_at` in proofs/Offsets.antt
pub record ThenAt {A B : Type 0} (p : Part A) (q : Part B) : Type 0 where
  pub first : (v : A × B) → (p then q).Holds v → take p.size ((p then q).write v) ≡ p.write v.0
  pub second : (v : A × B) → (p then q).Holds v → drop p.size ((p then q).write v) ≡ q.write v.1
  pub filled :
      (room : List ℕ) (at : ℕ) (v : A × B)
      → (p then q).Holds v
      → at + p.size ≤ length room
      → patch (patch room at (p.write v.0)) (at + p.size) (q.write v.1) ≡ patch room at ((p then q).write v)
  pub told :
      (b : List ℕ) (at : ℕ)
      → at + (p then q).size ≤ length b
      → read_at (p then q) b at ≡ of_both pair (read_at p b at) (read_at q b (at + p.size))

-- element k stands at k times the size; a room filled with the first k elements and then with one more is filled with k + 1; a whole
-- of n is read element by element, and isn't where one of them isn't. Proved as `times_at` in proofs/Offsets.antt
pub record TimesAt {A : Type 0} (p : Part A) : Type 0 where
  pub element :
      (n : ℕ) (xs : List A)
      → (n times p).Holds xs
      → (k : ℕ) (z : A)
      → k < n
      → take p.size (drop (k * p.size) ((n times p).write xs)) ≡ p.write (get_or xs k z)
  pub empty : (room : List ℕ) (at : ℕ) → patch room at ((0 times p).write []) ≡ room
  pub more :
      (room : List ℕ) (at k : ℕ) (f : ℕ → A)
      → ((j : ℕ) → j < k → p.Holds (f j))
      → at + k * p.size ≤ length room
      → patch (patch room at ((k times p).write (build f k))) (at + k * p.size) (p.write (f k))
      ≡ patch room at (((k + 1) times p).write (build f (k + 1)))
  pub told :
      (b : List ℕ) (at n : ℕ) (f : ℕ → A)
      → at + (n times p).size ≤ length b
      → ((k : ℕ) → k < n → read_at p b (at + k * p.size) ≡ some (f k))
      → read_at (n times p) b at ≡ some (build f n)
  pub refused :
      (b : List ℕ) (at n k : ℕ)
      → at + (n times p).size ≤ length b
      → k < n
      → read_at p b (at + k * p.size) ≡ none
      → read_at (n times p) b at ≡ none

-- singles 2j and 2j + 1 are pair j: they are held where each pair is, written as the pairs are, and read pair by pair. Proved as
-- `twos_at` in proofs/Offsets.antt
pub record TwosAt {A : Type 0} (p : Part (A × A)) : Type 0 where
  pub held :
      (n : ℕ) (f : ℕ → A) → ((j : ℕ) → j < n → p.Holds (f (2 * j), f (2 * j + 1))) → (n twos p).Holds (build f (2 * n))
  pub written :
      (n : ℕ) (f : ℕ → A) → (n twos p).write (build f (2 * n)) ≡ (n times p).write (build (λ j. (f (2 * j), f (2 * j + 1))) n)
  pub told :
      (b : List ℕ) (at n : ℕ) (f : ℕ → A)
      → at + (n twos p).size ≤ length b
      → ((k : ℕ) → k < n → read_at p b (at + k * p.size) ≡ some (f (2 * k), f (2 * k + 1)))
      → read_at (n twos p) b at ≡ some (build f (2 * n))
