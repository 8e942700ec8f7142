-- Definitions only: the paths that bytes give to the nets in rising number, and the words of what a place holds. Nothing is proved here.
-- P k are the bytes of the path of pair k; the nets are the pairs 0, 1, .. in rising number.
use Rattle.std.specs.Prelude.{List, [], ◌∷◌, ℕ, zero, suc, ◌≤◌, ◌<◌, length, None, Some}
use Rattle.board.specs.declared.Direction.{Direction}
use Rattle.net.specs.declared.Net.{Net}
use Rattle.net_places.specs.Places.{net}
use Rattle.words.specs.RoutingWord.{path_words, routing_words}
use Rattle.router_notes.specs.Limits.{path_limit}
use Rattle.router_writer.specs.Written.{directions}
use Rattle.net.specs.View.{Held}

-- the paths of n pairs from k on
unfoldable pub paths_from : (P : ℕ → List ℕ) (k n : ℕ) → List (List Direction)
paths_from P k zero = []
paths_from P k (suc n) = directions (P k) ∷ paths_from P (suc k) n

-- the paths of the first n pairs fit a buffer of 2,048 bytes
abbrev pub Short : (P : ℕ → List ℕ) (n : ℕ) → Type 0
Short P n = (k : ℕ) → k < n → length (P k) ≤ path_limit

-- the words of the routing that the paths give to the nets
abbrev pub words_of : (P : ℕ → List ℕ) → List Net → List ℕ
words_of P nets = routing_words nets (paths_from P 0 (length nets))

-- the nets' paths are short enough, and their words fit the buffer
pub record Fits (P : ℕ → List ℕ) (nets : List Net) (out : List ℕ) : Type 0 where
  pub short : Short P (length nets)
  pub room : length (words_of P nets) ≤ length out

-- the words of the net that a place of this number holds, with the path w
abbrev pub held_words : (number : ℕ) → Held → (w : List ℕ) → List ℕ
held_words number None w = []
held_words number (Some e) w = path_words (net number e) (directions w)

-- and that path fits
abbrev pub HeldShort : Held → (w : List ℕ) → Type 0
HeldShort None w = Unit {0}
HeldShort (Some e) w = length w ≤ path_limit
