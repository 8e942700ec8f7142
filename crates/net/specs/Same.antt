-- The test that two places are the same vertex.
-- Assumes nothing.
use Rattle.std.specs.Prelude.{◌≡◌, refl, true, ◌↔◌, eqb}
use Rattle.std.proofs.Common.{subst, eqb-true, eq-eqb}
use Rattle.count.specs.TruthLaws.{and_true}
use Rattle.count.specs.Bits.{eqb_sym}
use Rattle.board.specs.declared.Vertex.{Vertex}
use Rattle.net.specs.Terminals.{same}

pub same_true : (v u : Vertex) → same v u ≡ true → v ≡ u
same_true v u h =
    let k = and_true (eqb v.line u.line) (eqb v.column u.column) h in
    λ i. record { line = eqb-true v.line u.line k.0 i; column = eqb-true v.column u.column k.1 i }

pub same_self : (v : Vertex) → same v v ≡ true
same_self v = rw (eq-eqb v.line v.line refl, eq-eqb v.column v.column refl)

pub same_sym : (u v : Vertex) → same u v ≡ same v u
same_sym u v = rw (eqb_sym u.line v.line, eqb_sym u.column v.column)

pub same_exact : (u v : Vertex) → (same u v ≡ true) ↔ (u ≡ v)
same_exact u v = (same_true u v, λ e. subst (λ (w : Vertex). same u w ≡ true) e (same_self u))
