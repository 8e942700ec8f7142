-- A sound session has at most 64 nets (`few_nets`). So a list of nets has stopped after 65 at the latest: what stands behind them plays no part
-- (`enough`). And at most 128 vertices of it have taken pins (`few_taken`).
-- Assumes nothing.
use Rattle.std.specs.Prelude.{◌≡◌, refl, Bool, true, false, cond, List, [], ◌∷◌, ℕ, zero, suc, ◌+◌, ◌≤◌, ltb, length, take}
use Rattle.std.proofs.Common.{ap, arith}
use Rattle.std.proofs.Math.Option.{Option, none, some}
use Rattle.count.specs.Each.{Each}
use Rattle.count.specs.TruthLaws.{and_true}
use Rattle.board.specs.Board.{Board, Within}
use Rattle.board.specs.Path.{Convex}
use Rattle.board.specs.Degree.{pins}
use Rattle.board.specs.Tests.{vertex_exact}
use Rattle.board.specs.declared.Vertex.{Vertex}
use Rattle.board_block.specs.Block.{Block, taken_at}
use Rattle.board_block.proofs.Pins.{book_below}
use Rattle.board_block.specs.Taken.{in_order?, all_there?, taken_fine?}
use Rattle.board_block.proofs.TakenLaws.{There, taken_vertices, taken_most}
use Rattle.board_block.specs.declared.Book.{Book}
use Rattle.board_block.specs.declared.TakenPins.{TakenPins}
use Rattle.board_convex.proofs.Places.{vertex_in_row}
use Rattle.board_pins.specs.Pins.{frame_sum, all_pins}
use Rattle.board_pins.proofs.Frame.{frame_le, frame_add, frame_get}
use Rattle.board_pins.proofs.FewPins.{pins-few}
use Rattle.net.specs.Terminals.{same}
use Rattle.net.specs.Same.{same_self}
use Rattle.net.specs.declared.Net.{Net}
use Rattle.session_rules.specs.Refusal.{Refusal}
use Rattle.session_rules.specs.Session.{Session, insert}
use Rattle.session_rules.specs.Add.{add_refused}
use Rattle.session_rules.specs.Machine.{add_all, Step, stop_or, add_all_step, added, step}
use Rattle.session_rules.specs.Sound.{Sound}
use Rattle.session_laws.specs.Rising.{From}
use Rattle.session_laws.specs.Fine.{AllGood}
use Rattle.session_laws.proofs.Stays.{sound_fine, add_stays}

-- numbers that rise from k on and end by 64
rising_few : (b : Block) (k : ℕ) (ns : List Net) → k ≤ 65 → From k ns → AllGood b ns → length ns + k ≤ 65
rising_few b k [] h f g = omega arith
rising_few b k (n ∷ ns) h f g =
    let l = f.0 in let m = g.0.high in
    omega (arith, rising_few b (suc n.number) ns (omega arith) f.1 g.1)

pub few_nets : (b : Block) (ns : List Net) → From 0 ns → AllGood b ns → length ns ≤ 64
few_nets b [] f g = omega arith
few_nets b (n ∷ ns) f g = omega (arith, rising_few b 1 (n ∷ ns) (omega arith) (g.0.low, f.1) g)

-- ── taken pins ──
-- all that are taken, over lines and columns 0 to 31, are at least as many as are listed
listed_taken : (k : Book) (b : Board) (ts : List TakenPins) → Within b → Each (There k b) ts → length ts ≤ frame_sum (taken_at ts)
unfolding taken_at
listed_taken k b [] w h = omega arith
listed_taken k b (t ∷ ts) w h =
    let v = t.vertex in
    let r = vertex_in_row b v ((vertex_exact b v).0 h.0.vertex) in let x = r.1 in
    let here : Vertex → ℕ = λ u. cond (same v u) t.count 0 in
    let g = frame_get here v (omega (arith, x.row, x.high, w.few)) (omega (arith, x.to, w.fits r.0 x.row)) in
    let m : t.count ≤ frame_sum here = rw (same_self v) at g in
    omega (arith, frame_add here (taken_at ts), listed_taken k b ts w h.1, h.0.some)

pub few_taken : (b : Block) → Within b.board → Convex b.board → taken_fine? b ≡ true → length b.taken ≤ 128
unfolding all_pins
few_taken b w c e =
    let k = and_true (in_order? b.taken) (all_there? b.book b.board b.taken) e in
    omega (
      arith,
      listed_taken b.book b.board b.taken w (taken_vertices b.book b.board b.taken k.1),
      frame_le (taken_at b.taken) (pins b.board)
          (λ v. omega (arith, taken_most b.book b.board b.taken v k.0 k.1, book_below b.book b.board v)),
      pins-few b.board w c,
    )

-- ── a list of nets ──
length_either : (b : Bool) (n m : Net) (ms ns : List Net) → length ns ≡ suc (length ms)
    → length (cond b (n ∷ (m ∷ ms)) (m ∷ ns)) ≡ suc (suc (length ms))
length_either true n m ms ns e = refl
length_either false n m ms ns e = ap suc e

length_insert : (n : Net) (ns : List Net) → length (insert n ns) ≡ suc (length ns)
unfolding insert
length_insert n [] = refl
length_insert n (m ∷ ms) = length_either (ltb n.number m.number) n m ms (insert n ms) (length_insert n ms)

length_added : (n : Net) (s : Session) → length (added n s).nets ≡ suc (length s.nets)
unfolding added
length_added n s = length_insert n s.nets

stop_same : (s : Session) (n : Net) (r : Option Refusal) (k : ℕ) (x y : Step) → (r ≡ none → x ≡ y) → stop_or r k s x ≡ stop_or r k s y
stop_same s n none k x y e = e refl
stop_same s n (some r) k x y e = refl

enough_from : (m k : ℕ) (ns : List Net) (s : Session) → Sound s → 65 ≤ length s.nets + m → add_all_step k (take m ns) s ≡ add_all_step k ns s
unfolding add_all_step
enough_from zero k ns s h l =
    let f = sound_fine s h in absurd (omega (arith, few_nets s.block s.nets f.rising f.good))
enough_from (suc m) k [] s h l = refl
enough_from (suc m) k (n ∷ ns) s h l =
    stop_same s n (add_refused s.block s.nets n) k (add_all_step (k + 1) (take m ns) (added n s)) (add_all_step (k + 1) ns (added n s))
    (λ e. enough_from m (k + 1) ns (added n s) (add_stays s n none e h) (omega (arith, length_added n s)))

pub enough : (s : Session) (ns : List Net) → Sound s → step s (add_all (take 65 ns)) ≡ step s (add_all ns)
unfolding step
enough s ns h = enough_from 65 0 ns s h (omega arith)
