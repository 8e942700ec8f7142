-- Words and vertices, and the words of the corner and of its neighbours.
-- Assumes a shape that is shaped.
use Rattle.std.specs.Prelude.{◌≡◌, refl, Bool, true, false, ℕ, suc, ◌+◌, ◌*◌, ◌/◌, ◌%◌, ◌≤◌, ◌<◌, get_or}
use Rattle.std.proofs.Common.{ap, ap₂, ◌∙◌, sym, arith, add-one}
use Rattle.board.specs.Board.{at}
use Rattle.board.specs.declared.Vertex.{Vertex}
use Rattle.corner.specs.Shape.{Shape, Shaped, last, UL, NUL, BUL}
use Rattle.corner.proofs.Presence.{last_suc}
use Rattle.router_notes.specs.Limits.{vertex_limit}
use Rattle.router_notes.specs.Inv.{turn}
use Rattle.router_notes.specs.Alike.{turn_l}
use Rattle.router_notes.specs.Arrays.{vtx}
use Rattle.router_table.specs.Scans.{seen_d}
use Rattle.router_invariant.specs.Run.{Run, shape_r, line_r, col_r, ul_r, nul_r, bul_w, bul_r}

pub vtx_at : (l c : ℕ) → c < 32 → vtx (l * 32 + c) ≡ at l c
vtx_at l c h = ap₂ at (let e : (l * 32 + c) / 32 ≡ l = omega arith in e) (let e : (l * 32 + c) % 32 ≡ c = omega arith in e)

pub vtx_same : (x y : ℕ) → vtx x ≡ vtx y → x ≡ y
vtx_same x y e =
    let p : x / 32 ≡ y / 32 = ap (λ (v : Vertex). v.line) e in
    let q : x % 32 ≡ y % 32 = ap (λ (v : Vertex). v.column) e in
    omega arith

pub seen_turn : (o : Bool) (l : ℕ) → seen_d o l ≡ turn_l o l
unfolding last
seen_turn false l = refl
seen_turn true l = refl

pub turn_at : (o : Bool) (l c : ℕ) → turn o (at l c) ≡ at (turn_l o l) c
turn_at false l c = refl
turn_at true l c = refl

pub last_is : last ≡ 31
unfolding last
last_is = refl

module _ (R : Run) (G : Shaped (shape_r R)) where
  abbrev S : Shape
  S = shape_r R

  low-top : R.top ≤ 31
  low-top = omega (arith, G.order, G.low, last_suc, last_is)

  pub low-line : line_r R ≤ 31
  low-line = go R.up
    where
      go : (o : Bool) → seen_d o R.top ≤ 31
      go false = low-top
      go true = omega arith

  pub col-is : col_r R ≡ get_or R.lo (turn_l R.up R.top) 0
  col-is = ap (λ k. get_or R.lo k 0) (seen_turn R.up R.top)

  pub low-col : col_r R < 32
  low-col = let k = G.full R.top (omega arith, G.order) in let m = G.thin R.top (omega arith, G.order) in
      omega (arith, col-is, last_suc, last_is)

  pub ul-is : vtx (ul_r R) ≡ turn R.up (UL (shape_r R))
  ul-is = vtx_at (line_r R) (col_r R) low-col ∙ ap₂ at (seen_turn R.up R.top) col-is ∙ sym (turn_at R.up R.top _)

  pub low-ul : ul_r R < vertex_limit
  low-ul = omega (arith, low-line, low-col)

  pub nul-is : S.a S.top < S.b S.top → vtx (nul_r R) ≡ turn R.up (NUL (shape_r R))
  nul-is wide = ap vtx (let e : nul_r R ≡ line_r R * 32 + (col_r R + 1) = omega arith in e)
      ∙ vtx_at (line_r R) (col_r R + 1) (let m = G.thin R.top (omega arith, G.order) in omega (arith, col-is, last_suc, last_is, wide))
      ∙ ap₂ at (seen_turn R.up R.top) (add-one (col_r R) ∙ ap suc col-is) ∙ sym (turn_at R.up R.top _)

  pub bul-is : R.top < R.bottom → vtx (bul_r R) ≡ turn R.up (BUL (shape_r R))
  bul-is deep = ap vtx (go R.up (col_r R)) ∙ vtx_at (seen_d R.up (suc R.top)) (col_r R) low-col
      ∙ ap₂ at (seen_turn R.up (suc R.top)) col-is ∙ sym (turn_at R.up (suc R.top) _)
    where
      go : (o : Bool) (c : ℕ) → bul_w o (seen_d o R.top * 32 + c) ≡ seen_d o (suc R.top) * 32 + c
      go false c = omega arith
      go true c = let b : R.top < 31 = omega (arith, deep, G.low, last_suc, last_is) in omega arith
