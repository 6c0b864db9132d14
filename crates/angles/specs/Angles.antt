-- The 88 angles of 16 anodes by 8 spin phases (01, "Angles"; 000, section 2.3.2).
-- Assumes nothing.
use Rattle.std.specs.Prelude.{ℕ, ◌+◌, ◌*◌, ◌-◌, ◌/◌, Bool, cond, ◌&&◌, List, [], ◌∷◌, ◌≡◌, ltb, leb, Option, Some, None}

-- a line of 01's table: anodes, angles, phases per angle
pub record Line : Type 0 where
  pub anode : ℕ
  pub last_anode : ℕ
  pub angle : ℕ
  pub last_angle : ℕ
  pub phases : ℕ

abbrev pub line : ℕ → ℕ → ℕ → ℕ → ℕ → Line
line a z b y n = record { anode = a; last_anode = z; angle = b; last_angle = y; phases = n }

unfoldable pub lines : List Line
lines =
    line 0 0 0 1 4
    ∷ line 1 1 2 5 2
    ∷ line 2 5 6 37 1
    ∷ line 6 6 38 41 2
    ∷ line 7 7 42 43 4
    ∷ line 8 8 44 45 4
    ∷ line 9 9 46 49 2
    ∷ line 10 13 50 81 1
    ∷ line 14 14 82 85 2
    ∷ line 15 15 86 87 4
    ∷ []

-- the line of an anode, the anodes rising
abbrev pub line_in : List Line → ℕ → Line
line_in [] a = line 0 0 0 0 1
line_in (l ∷ ls) a = cond (leb a l.last_anode) l (line_in ls a)

abbrev pub anode_line : ℕ → Line
anode_line a = line_in lines a

-- eight phases an anode, so many of them an angle, anode after anode
abbrev pub angle_in : Line → ℕ → ℕ → ℕ
angle_in l a p = l.angle + (a - l.anode) * (8 / l.phases) + p / l.phases

unfoldable pub angle_at : ℕ → ℕ → ℕ
angle_at a p = angle_in (anode_line a) a p

-- "Anode above 15 or phase above 7 answers "no such bin""
abbrev pub has_bin : ℕ → ℕ → Bool
has_bin a p = ltb a 16 && ltb p 8

-- one answer: the angle, and none where there is no such bin
abbrev pub AngleIs : ℕ → ℕ → Option ℕ → Type 0
AngleIs a p r = r ≡ cond (has_bin a p) (Some (angle_at a p)) None
