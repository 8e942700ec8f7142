-- Definitions only: what a keep and a return do, sentence by sentence (document 02, §5). Nothing is proved here: that the list machine's calls do so
-- is shown in crate session_laws, `keeps` and `returns`.
use Rattle.std.specs.Prelude.{◌≡◌, List, [], ◌∷◌, ℕ, ◌≤◌, ◌<◌, length}
use Rattle.std.proofs.Math.Option.{none, some}
use Rattle.net.specs.declared.Net.{Net}
use Rattle.session_rules.specs.Refusal.{refusal}
use Rattle.session_rules.specs.Session.{last_name, Session, kept_under}
use Rattle.session_rules.specs.Machine.{Call, add, add_all, withdraw, take_back, keep, return_to, move_over, Answer, accepted, refused}
use Rattle.session_rules.specs.Sound.{Sound}

-- a keep under the name k, made on s, was answered a and left t
pub record Keeps (s : Session) (k : ℕ) (a : Answer) (t : Session) : Type 0 where
  -- 20 first, then "35 for a name above 7", place 0; nothing is changed
  pub unsound : (Sound s → ⊥) → (a ≡ refused (refusal 20 0)) × (t ≡ s)
  pub no_name : Sound s → last_name < k → (a ≡ refused (refusal 35 0)) × (t ≡ s)
  -- "Keep stores the nets now on the board under a name, over what it held"; "a keep of no nets counts as kept"
  pub stores : Sound s → k ≤ last_name → (a ≡ accepted) × (kept_under k t ≡ some s.nets)
  -- "Neither adds a change to the pile"; the board, the nets and the other names stay as well
  pub block : t.block ≡ s.block
  pub nets : t.nets ≡ s.nets
  pub pile : t.pile ≡ s.pile
  pub others : (j : ℕ) → (j ≡ k → ⊥) → kept_under j t ≡ kept_under j s
  pub as_many : length t.names ≡ length s.names

-- a return to the name k, made on s, was answered a and left t
pub record Returns (s : Session) (k : ℕ) (a : Answer) (t : Session) : Type 0 where
  pub unsound : (Sound s → ⊥) → (a ≡ refused (refusal 20 0)) × (t ≡ s)
  pub no_name : Sound s → last_name < k → (a ≡ refused (refusal 35 0)) × (t ≡ s)
  -- "then 36 for a return to a name that holds nothing kept"
  pub nothing-kept : Sound s → k ≤ last_name → kept_under k s ≡ none → (a ≡ refused (refusal 36 0)) × (t ≡ s)
  -- "Return makes those nets current and empties the pile."
  pub brings : Sound s → k ≤ last_name → (ns : List Net) → kept_under k s ≡ some ns → (a ≡ accepted) × (t.nets ≡ ns) × (t.pile ≡ [])
  -- the board and the names stay
  pub block : t.block ≡ s.block
  pub names : t.names ≡ s.names

-- the calls that may change what the name k holds: a keep under it, and a move to the new rule, which forgets all names (§10)
abbrev pub ChangesName : (k : ℕ) → Call → Type 0
ChangesName k (add n) = ⊥
ChangesName k (add_all ns) = ⊥
ChangesName k (withdraw n) = ⊥
ChangesName k take_back = ⊥
ChangesName k (keep j) = j ≡ k
ChangesName k (return_to j) = ⊥
ChangesName k move_over = Unit {0}

-- none of the calls does
abbrev pub Untouched : (k : ℕ) → List Call → Type 0
Untouched k [] = Unit {0}
Untouched k (c ∷ cs) = (ChangesName k c → ⊥) × Untouched k cs
