-- 64 places are determined by the nets that they hold.
-- Assumes nothing.
use Rattle.std.specs.Prelude.{◌≡◌, refl, List, map, ℕ, suc, ◌+◌, ◌<◌, length, get_or, None, Some}
use Rattle.std.proofs.Common.{ap, sym, ◌∙◌, arith, ext_get_or}
use Rattle.count.specs.Lists.{up_to, length-rising, getD-rising}
use Rattle.net.specs.View.{Held, nothing}
use Rattle.session_rules.specs.Session.{net_of}
use Rattle.net_places.specs.Places.{nets_of}
use Rattle.net_places.specs.Nets.{held_as}
use Rattle.net_places.proofs.NetsLaws.{net-of}
use Rattle.board_reading.specs.Value.{place_for, places_for}

-- ── 64 places are determined by their nets ──
place_held : (n : ℕ) (p : Held) → place_for (held_as n p) ≡ p
place_held n p = go p
  where
    go : (h : Held) → place_for (held_as n h) ≡ h
    go None = refl
    go (Some e) = refl

pub places-for : (ps : List Held) → length ps ≡ 64 → places_for (nets_of ps) ≡ ps
unfolding places_for
places-for ps e = ext_get_or nothing (map (λ i. place_for (net_of (suc i) (nets_of ps))) (up_to 64)) ps
    (length-rising (λ i. place_for (net_of (suc i) (nets_of ps))) 0 64 ∙ sym e) each
  where
    each : (i : ℕ) → i < length (map (λ i. place_for (net_of (suc i) (nets_of ps))) (up_to 64))
        → get_or (map (λ i. place_for (net_of (suc i) (nets_of ps))) (up_to 64)) i nothing ≡ get_or ps i nothing
    each i h = let z : 0 + i ≡ i = omega arith in
        getD-rising (λ i. place_for (net_of (suc i) (nets_of ps))) 0 64 i nothing
        (omega (arith, length-rising (λ i. place_for (net_of (suc i) (nets_of ps))) 0 64))
        ∙ (rw z (ap place_for (net-of ps (suc i)) ∙ place_held (suc i) (get_or ps i nothing)))
