-- Laws of the counts over pairs: how they go with the sets. No geometry.
-- Assumes nothing.
use Rattle.std.specs.Prelude.{◌≡◌, refl, Bool, true, false, ◌&&◌, ◌||◌, not, List, [], ◌∷◌, ◌++◌, ℕ, ◌+◌, ◌*◌, ◌≤◌}
use Rattle.std.proofs.Common.{ap, ◌∙◌, sym, arith}
use Rattle.count.specs.Truth.{one}
use Rattle.board.specs.declared.Vertex.{Vertex}
use Rattle.net.specs.declared.Pair.{Pair}
use Rattle.count.specs.Bits.{one_zero}
use Rattle.corner.specs.Pairs.{pair, apart, both, tally, All, leaving, inside, standing, between, maps}
use Rattle.corner.proofs.Apart.{apart_same, apart_not, Parted, in_first, in_second, in_none, parted}

pub all_map : {P Q : Vertex → Type 0} → ((v : Vertex) → P v → Q v) → (ps : List Pair) → All P ps → All Q ps
all_map f [] h = tt
all_map f (p ∷ ps) h = (f _ h.0, f _ h.1, all_map f ps h.2)

pub all_zip : {P Q R : Vertex → Type 0} → ((v : Vertex) → P v → Q v → R v) → (ps : List Pair) → All P ps → All Q ps → All R ps
all_zip f [] h k = tt
all_zip f (p ∷ ps) h k = (f _ h.0 k.0, f _ h.1 k.1, all_zip f ps h.2 k.2)

pub all_maps : (g : Vertex → Vertex) (P Q : Vertex → Type 0) → ((v : Vertex) → P v → Q (g v)) → (ps : List Pair) → All P ps → All Q (maps g ps)
all_maps g P Q f [] a = tt
all_maps g P Q f (p ∷ ps) a = (f _ a.0, f _ a.1, all_maps g P Q f ps a.2)

pub all_unit : (ps : List Pair) → All (λ v. Unit {0}) ps
all_unit [] = tt
all_unit (p ∷ ps) = (tt, tt, all_unit ps)

pub all_append : (P : Vertex → Type 0) (hs ps : List Pair) → All P hs → All P ps → All P (hs ++ ps)
all_append P [] ps a b = b
all_append P (p ∷ hs) ps a b = (a.0, a.1, all_append P hs ps a.2 b)

pub tally_le : (P : Vertex → Type 0) (f g : Vertex → Vertex → ℕ) → ((u v : Vertex) → P u → P v → f u v ≤ g u v)
    → (ps : List Pair) → All P ps → tally f ps ≤ tally g ps
unfolding tally
tally_le P f g h [] a = omega arith
tally_le P f g h (p ∷ ps) a = omega (arith, h p.first p.second a.0 a.1, tally_le P f g h ps a.2)

pub tally_eq : (P : Vertex → Type 0) (f g : Vertex → Vertex → ℕ) → ((u v : Vertex) → P u → P v → f u v ≡ g u v)
    → (ps : List Pair) → All P ps → tally f ps ≡ tally g ps
unfolding tally
tally_eq P f g h [] a = refl
tally_eq P f g h (p ∷ ps) a = omega (arith, h p.first p.second a.0 a.1, tally_eq P f g h ps a.2)

-- ── one pair more ──
pub standing_cons : (X : Vertex → Bool) (u v : Vertex) (ps : List Pair) → standing X (pair u v ∷ ps) ≡ one (X u) + one (X v) + standing X ps
unfolding standing tally
standing_cons X u v ps = refl

pub leaving_cons : (X : Vertex → Bool) (u v : Vertex) (ps : List Pair) → leaving X (pair u v ∷ ps) ≡ apart (X u) (X v) + leaving X ps
unfolding leaving tally
leaving_cons X u v ps = refl

pub standing_nil : (X : Vertex → Bool) → standing X [] ≡ 0
unfolding standing tally
standing_nil X = refl

pub standing_append : (X : Vertex → Bool) (hs ps : List Pair) → standing X (hs ++ ps) ≡ standing X hs + standing X ps
unfolding standing tally
standing_append X [] ps = omega arith
standing_append X (p ∷ hs) ps = omega (arith, standing_append X hs ps)

-- ── terminals in a set ──
standing_one : (a b : Bool) → one a + one b ≡ apart a b + (both a b + both a b)
standing_one true true = refl
standing_one true false = refl
standing_one false true = refl
standing_one false false = refl

-- a pair inside the set has two ends in it, a pair that leaves it one
pub standing_split : (X : Vertex → Bool) (ps : List Pair) → standing X ps ≡ leaving X ps + 2 * inside X ps
unfolding standing leaving inside tally
standing_split X [] = refl
standing_split X (p ∷ ps) = omega (arith, standing_one (X p.first) (X p.second), standing_split X ps)

-- a set parted in two
pub standing_add : (P : Vertex → Type 0) (X Y Z : Vertex → Bool) → ((u : Vertex) → P u → one (X u) ≡ one (Y u) + one (Z u))
    → (ps : List Pair) → All P ps → standing X ps ≡ standing Y ps + standing Z ps
unfolding standing tally
standing_add P X Y Z h [] a = refl
standing_add P X Y Z h (p ∷ ps) a = omega (arith, h p.first a.0, h p.second a.1, standing_add P X Y Z h ps a.2)

pub standing_le : (P : Vertex → Type 0) (X Y : Vertex → Bool) → ((u : Vertex) → P u → one (X u) ≤ one (Y u))
    → (ps : List Pair) → All P ps → standing X ps ≤ standing Y ps
unfolding standing tally
standing_le P X Y h [] a = omega arith
standing_le P X Y h (p ∷ ps) a = omega (arith, h p.first a.0, h p.second a.1, standing_le P X Y h ps a.2)

pub standing_none : (P : Vertex → Type 0) (X : Vertex → Bool) → ((u : Vertex) → P u → X u ≡ false)
    → (ps : List Pair) → All P ps → standing X ps ≡ 0
unfolding standing tally
standing_none P X h [] a = refl
standing_none P X h (p ∷ ps) a = omega (arith, ap one (h p.first a.0), ap one (h p.second a.1), standing_none P X h ps a.2)

pub standing_ext : (P : Vertex → Type 0) (X Y : Vertex → Bool) → ((u : Vertex) → P u → X u ≡ Y u)
    → (ps : List Pair) → All P ps → standing X ps ≡ standing Y ps
unfolding standing tally
standing_ext P X Y h [] a = refl
standing_ext P X Y h (p ∷ ps) a = omega (arith, ap one (h p.first a.0), ap one (h p.second a.1), standing_ext P X Y h ps a.2)

pub all_out : (X : Vertex → Bool) (ps : List Pair) → standing X ps ≡ 0 → All (λ v. X v ≡ false) ps
unfolding standing tally
all_out X [] h = tt
all_out X (p ∷ ps) h = (one_zero (X p.first) (omega arith), one_zero (X p.second) (omega arith), all_out X ps (omega arith))

-- ── pairs that leave a set ──
pub leaving_ext : (P : Vertex → Type 0) (X Y : Vertex → Bool) → ((u : Vertex) → P u → X u ≡ Y u)
    → (ps : List Pair) → All P ps → leaving X ps ≡ leaving Y ps
unfolding leaving
leaving_ext P X Y h ps a = tally_eq P (λ u v. apart (X u) (X v)) (λ u v. apart (Y u) (Y v)) (λ u v p q. rw (h u p, h v q)) ps a

pub leaving_not : (X : Vertex → Bool) (ps : List Pair) → leaving (λ v. not (X v)) ps ≡ leaving X ps
unfolding leaving tally
leaving_not X [] = refl
leaving_not X (p ∷ ps) = omega (arith, apart_not (X p.first) (X p.second), leaving_not X ps)

-- nothing leaves a set on which nobody stands
pub leaving_none : (P : Vertex → Type 0) (X : Vertex → Bool) → ((u : Vertex) → P u → X u ≡ false) → (ps : List Pair) → All P ps → leaving X ps ≡ 0
leaving_none P X h ps a = omega (arith, standing_split X ps, standing_none P X h ps a)

-- nor one in which all stand, or none
pub leaving_const : (P : Vertex → Type 0) (X : Vertex → Bool) (b : Bool) → ((u : Vertex) → P u → X u ≡ b) → (ps : List Pair) → All P ps
    → leaving X ps ≡ 0
unfolding leaving tally
leaving_const P X b h [] a = refl
leaving_const P X b h (p ∷ ps) a = omega (
  arith,
  leaving_const P X b h ps a.2,
  apart_same (X p.first) (X p.second) (h _ a.0 ∙ sym (h _ a.1)),
)

-- what leaves X leaves its part Y, or stands in its part Z
apart_part : {x y z x' y' z' : Bool} → Parted x y z → Parted x' y' z' → apart x x' ≤ apart y y' + (one z + one z')
apart_part in_first in_first = omega arith
apart_part in_first in_second = omega arith
apart_part in_first in_none = omega arith
apart_part in_second in_first = omega arith
apart_part in_second in_second = omega arith
apart_part in_second in_none = omega arith
apart_part in_none in_first = omega arith
apart_part in_none in_second = omega arith
apart_part in_none in_none = omega arith

pub leaving_part : (P : Vertex → Type 0) (X Y Z : Vertex → Bool) → ((u : Vertex) → P u → one (X u) ≡ one (Y u) + one (Z u))
    → (ps : List Pair) → All P ps → leaving X ps ≤ leaving Y ps + standing Z ps
unfolding leaving standing tally
leaving_part P X Y Z h [] a = omega arith
leaving_part P X Y Z h (p ∷ ps) a = omega (
  arith,
  apart_part (parted (X p.first) (Y p.first) (Z p.first) (h p.first a.0))
      (parted (X p.second) (Y p.second) (Z p.second) (h p.second a.1)),
  leaving_part P X Y Z h ps a.2,
)

-- ── under a map of the vertices ──
pub leaving_maps : (g : Vertex → Vertex) (X : Vertex → Bool) (ps : List Pair) → leaving X (maps g ps) ≡ leaving (λ v. X (g v)) ps
unfolding leaving tally
leaving_maps g X [] = refl
leaving_maps g X (p ∷ ps) = omega (arith, leaving_maps g X ps)

pub standing_maps : (g : Vertex → Vertex) (X : Vertex → Bool) (ps : List Pair) → standing X (maps g ps) ≡ standing (λ v. X (g v)) ps
unfolding standing tally
standing_maps g X [] = refl
standing_maps g X (p ∷ ps) = omega (arith, standing_maps g X ps)

-- ── the four quarters that a row cut and a column cut make: u says above, x says left ──
quarters_one : (u x u' x' : Bool)
    → apart u u' + apart x x' ≡ apart (u && x) (u' && x') + apart (not u && not x) (not u' && not x')
    + (one (((u && not x) && (not u' && x')) || ((u' && not x') && (not u && x))) + one
    (((u && not x) && (not u' && x')) || ((u' && not x') && (not u && x))))
quarters_one true true true true = refl
quarters_one true true true false = refl
quarters_one true true false true = refl
quarters_one true true false false = refl
quarters_one true false true true = refl
quarters_one true false true false = refl
quarters_one true false false true = refl
quarters_one true false false false = refl
quarters_one false true true true = refl
quarters_one false true true false = refl
quarters_one false true false true = refl
quarters_one false true false false = refl
quarters_one false false true true = refl
quarters_one false false true false = refl
quarters_one false false false true = refl
quarters_one false false false false = refl

pub quarters : (U X : Vertex → Bool) (ps : List Pair)
    → leaving U ps + leaving X ps ≡ leaving (λ v. U v && X v) ps + leaving (λ v. not (U v) && not (X v)) ps
    + 2 * between (λ v. U v && not (X v)) (λ v. not (U v) && X v) ps
unfolding leaving between tally
quarters U X [] = refl
quarters U X (p ∷ ps) = omega (arith, quarters_one (U p.first) (X p.first) (U p.second) (X p.second), quarters U X ps)
