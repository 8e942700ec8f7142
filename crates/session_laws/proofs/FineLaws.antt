-- Nets that keep within a board: in rising number, each on two different vertices, no vertex with more terminals than pins.
-- Putting in a net that add accepts, and taking one out, keep it.
-- Assumes nothing.
use Rattle.std.specs.Prelude.{◌≡◌, refl, Bool, true, false, cond, List, [], ◌∷◌, ℕ, ◌+◌, ◌≤◌, eqb, ltb}
use Rattle.std.proofs.Common.{ap, sym, ◌∙◌, arith, eqb-true}
use Rattle.std.proofs.Math.Option.{Option, some}
use Rattle.count.specs.TruthLaws.{clash, and_true}
use Rattle.board.specs.declared.Vertex.{Vertex}
use Rattle.board_block.specs.Block.{Block, pins_of}
use Rattle.net.specs.Terminals.{same, ends, terminals}
use Rattle.net.specs.declared.Net.{Net}
use Rattle.session_rules.specs.Session.{pairs, insert, remove, net_of}
use Rattle.session_laws.specs.Fine.{Good, AllGood, Room, Fine}
use Rattle.session_laws.proofs.Accept.{Free}
use Rattle.net.specs.Same.{same_self}
use Rattle.session_laws.proofs.Insert.{terminals_insert, terminals_remove, holds_removed, net_of_number}
use Rattle.session_laws.proofs.Rising.{from_insert, from_remove, insert_remove}

pub good_of : (b : Block) (ns : List Net) (n : Net) → Free b ns n → Good b n
good_of b ns n f = record { low = f.low; high = f.high; first = f.first; second = f.second; apart = f.apart }

-- that goes by the board alone
pub good_on : (b c : Block) → c.board ≡ b.board → (ns : List Net) → AllGood b ns → AllGood c ns
good_on b c e [] g = tt
good_on b c e (n ∷ ns) g =
    let k = g.0 in
    (record { low = k.low; high = k.high; first = rw e k.first; second = rw e k.second; apart = k.apart }, good_on b c e ns g.1)

-- ── the terminals of one net ──
pub same-vertex : (u v : Vertex) → same u v ≡ true → u ≡ v
same-vertex u v e =
    let t = and_true (eqb u.line v.line) (eqb u.column v.column) e in
    ap (λ (l : ℕ). vertex l u.column) (eqb-true u.line v.line t.0)
    ∙ ap (λ (c : ℕ). vertex v.line c) (eqb-true u.column v.column t.1)
  where
    vertex : ℕ → ℕ → Vertex
    vertex l c = record { line = l; column = c }

pub first_there : (n : Net) → 1 ≤ ends n.ends n.ends.first
first_there n = rw (same_self n.ends.first) (omega arith)

pub second_there : (n : Net) → 1 ≤ ends n.ends n.ends.second
second_there n = rw (same_self n.ends.second) (omega arith)

-- ── a net goes in ──
pub room_insert : (b : Block) (ns : List Net) (n : Net) → Room b ns → Free b ns n → Room b (insert n ns)
room_insert b ns n r f v = go (same n.ends.first v) (same n.ends.second v) refl refl
  where
    go : (p q : Bool) → same n.ends.first v ≡ p → same n.ends.second v ≡ q → terminals (pairs (insert n ns)) v ≤ pins_of b v
    go true true d e =
        let x : n.ends.first ≡ n.ends.second = same-vertex n.ends.first v d ∙ sym (same-vertex n.ends.second v e) in
        absurd (clash (rw x (same_self n.ends.second)) f.apart)
    go true false d e =
        let w = rw (same-vertex n.ends.first v d) at f.room_first in
        let t : terminals (pairs (insert n ns)) v ≡ 1 + terminals (pairs ns) v = rw (d, e) at (terminals_insert n ns v) in
        omega arith
    go false true d e =
        let w = rw (same-vertex n.ends.second v e) at f.room_second in
        let t : terminals (pairs (insert n ns)) v ≡ 1 + terminals (pairs ns) v = rw (d, e) at (terminals_insert n ns v) in
        omega arith
    go false false d e =
        let t : terminals (pairs (insert n ns)) v ≡ 0 + terminals (pairs ns) v = rw (d, e) at (terminals_insert n ns v) in
        omega (arith, r v)

good_cond : (t : Bool) (b : Block) (n m : Net) (ms ns : List Net) → Good b n → AllGood b (m ∷ ms) → AllGood b ns
    → AllGood b (cond t (n ∷ (m ∷ ms)) (m ∷ ns))
good_cond true b n m ms ns g f h = (g, f)
good_cond false b n m ms ns g f h = (f.0, h)

good_insert : (b : Block) (n : Net) (ns : List Net) → Good b n → AllGood b ns → AllGood b (insert n ns)
unfolding insert
good_insert b n [] g f = (g, tt)
good_insert b n (m ∷ ms) g f = good_cond (ltb n.number m.number) b n m ms (insert n ms) g f (good_insert b n ms g f.1)

pub fine_insert : (b : Block) (ns : List Net) (n : Net) → Fine b ns → Free b ns n → Fine b (insert n ns)
fine_insert b ns n f g = record {
  rising = from_insert 0 n ns (omega arith) g.new f.rising;
  good = good_insert b n ns (good_of b ns n g) f.good;
  room = room_insert b ns n f.room g;
}

-- ── a net comes out ──
kept_cond : (t : Bool) (b : Block) (m : Net) (ns : List Net) → Good b m → AllGood b ns → AllGood b (cond t ns (m ∷ ns))
kept_cond true b m ns g f = f
kept_cond false b m ns g f = (g, f)

good_remove : (b : Block) (k : ℕ) (ns : List Net) → AllGood b ns → AllGood b (remove k ns)
unfolding remove
good_remove b k [] f = tt
good_remove b k (m ∷ ms) f = kept_cond (eqb m.number k) b m (remove k ms) f.0 (good_remove b k ms f.1)

pub fine_remove : (b : Block) (k : ℕ) (ns : List Net) → Fine b ns → Fine b (remove k ns)
fine_remove b k ns f = record {
  rising = from_remove 0 k ns f.rising;
  good = good_remove b k ns f.good;
  room = λ v. omega (arith, terminals_remove k ns v, f.room v);
}

-- ── a net that was taken out is one that add accepts ──
found_cond : (t : Bool) (b : Block) (m n : Net) (x : Option Net) → Good b m → (x ≡ some n → Good b n) → cond t (some m) x ≡ some n → Good b n
found_cond true b m n x g f e = let h : m ≡ n = cc in rw h at g
found_cond false b m n x g f e = f e

good_found : (b : Block) (k : ℕ) (ns : List Net) (n : Net) → AllGood b ns → net_of k ns ≡ some n → Good b n
unfolding net_of
good_found b k [] n f e = let z : ◌≡◌ {A = ℕ} 0 1 = cc in absurd (omega arith)
good_found b k (m ∷ ms) n f e = found_cond (eqb m.number k) b m n (net_of k ms) f.0 (good_found b k ms n f.1) e

pub free_removed : (b : Block) (k : ℕ) (ns : List Net) (n : Net) → Fine b ns → net_of k ns ≡ some n → Free b (remove k ns) n
free_removed b k ns n f e =
    let g = good_found b k ns n f.good e in
    let back = insert_remove 0 k ns n f.rising e in
    let t : (v : Vertex) → terminals (pairs ns) v ≡ ends n.ends v + terminals (pairs (remove k ns)) v
    = λ v. rw back at (terminals_insert n (remove k ns) v) in
    record {
      low = g.low;
      high = g.high;
      new = rw (net_of_number k ns n e) (holds_removed k ns);
      first = g.first;
      second = g.second;
      apart = g.apart;
      room_first = omega (arith, t n.ends.first, f.room n.ends.first, first_there n);
      room_second = omega (arith, t n.ends.second, f.room n.ends.second, second_there n);
    }
