-- Definitions only: a judged routing as a page of text (document 02, §7; refusals 20, 37, 10 and 41 to 46). Nothing is proved here: PageLaws has what
-- can be read off a page.
use Rattle.std.specs.Prelude.{Bool, cond, ℕ, suc, ◌-◌, ◌*◌, ◌/◌, ◌%◌, eqb, ltb}
use mathlib.Core.List.{List, [], ◌∷◌, ◌++◌, map, flat_map, flatten}
use Rattle.count.specs.Lists.{up_to}
use Rattle.board.specs.Board.{Board, height, at, Edge}
use Rattle.board.specs.Path.{along}
use Rattle.board.specs.Degree.{vertex?}
use Rattle.board.specs.declared.Direction.{Direction}
use Rattle.board.specs.declared.Direction.TheVariants.{Right, Down}
use Rattle.routing_rules.specs.Routing.{trails, uses}
use Rattle.words.specs.Bytes.{words_in}
use Rattle.session_rules.specs.Refusal.{line, first_refusal}
use Rattle.session_rules.specs.Session.{Session, pairs}
use Rattle.call_rules.specs.Result.{Result, yes, and_then, unless}
use Rattle.call_rules.specs.Judge.{judged, if_sound, if_even}

-- ── the page, of a board and a set of used edges, given by its test ──
-- "+", "-", "|", a space and a line feed, as bytes
abbrev pub plus : ℕ
plus = 43

abbrev pub dash : ℕ
dash = 45

abbrev pub bar : ℕ
bar = 124

abbrev pub space : ℕ
space = 32

abbrev pub line_feed : ℕ
line_feed = 10

-- a sign where something holds; "All else is a space."
abbrev pub sign_if : Bool → ℕ → ℕ
sign_if t sign = cond t sign space

abbrev pub even? : ℕ → Bool
even? n = eqb (n % 2) 0

-- the text line of board line l, at character x: "Column j's vertex stands at character 2j, counted from 0, as "+". Between neighbours stands "-" ..
-- where a path uses the edge"
unfoldable pub on_line : Board → (Edge → Bool) → (l x : ℕ) → ℕ
on_line b used l x = cond (even? x) (sign_if (vertex? b (at l (x / 2))) plus) (sign_if (used (along Right (at l (x / 2)))) dash)

-- the text line below it: "or, below a vertex, "|" where a path uses the edge"
unfoldable pub below_line : (Edge → Bool) → (l x : ℕ) → ℕ
below_line used l x = cond (even? x) (sign_if (used (along Down (at l (x / 2)))) bar) space

-- text line y, at character x: each board line has its text line, and the one below it
abbrev pub character_at : Board → (Edge → Bool) → (y x : ℕ) → ℕ
character_at b used y x = cond (even? y) (on_line b used (y / 2) x) (below_line used (y / 2) x)

-- "63 characters and a line feed per text line"
unfoldable pub text_line : Board → (Edge → Bool) → (y : ℕ) → List ℕ
text_line b used y = map (character_at b used y) (up_to 63) ++ (line_feed ∷ [])

-- "two text lines per board line, less one"; a board has one line more than rows
abbrev pub text_lines : Board → ℕ
text_lines b = 2 * suc (height b) - 1

unfoldable pub page : Board → (Edge → Bool) → List ℕ
page b used = flat_map (text_line b used) (up_to (text_lines b))

-- ── of a session's nets and their paths ──
-- the edges of all paths
abbrev pub edges_of : Session → List (List Direction) → List Edge
edges_of s dss = flatten (trails (pairs s.nets) dss)

-- is an edge used, where these are the edges of the paths?
abbrev pub used_in : List Edge → Edge → Bool
used_in es e = ltb 0 (uses e es)

abbrev pub page_of : Session → List (List Direction) → List ℕ
page_of s dss = page s.block.board (used_in (edges_of s dss))

-- ── the call ──
-- "37 .. where the page's buffer has fewer than 4,032 bytes": as many as the longest page has
abbrev pub page_room : ℕ
page_room = 4032

-- "before judging"
abbrev pub if_room : {A : Type 0} → (room : ℕ) → Result A → Result A
if_room room x = unless (first_refusal (line (ltb room page_room) 37 0 ∷ [])) x

-- "Print a judged routing as a page". "Routings that fail judging keep the judge's number and print no page."
abbrev pub judged_page : Session → List ℕ → Result (List ℕ)
judged_page s ws = and_then (judged s ws) (λ dss. yes (page_of s dss))

-- the bytes that are written into a buffer of so many, or the refusal: 20, 37, 41 to 46
unfoldable pub draw_words : Session → List ℕ → (room : ℕ) → Result (List ℕ)
draw_words s ws room = if_sound s (if_room room (judged_page s ws))

-- the same of a list of bytes: 37 before 10, and 10 before 41
unfoldable pub draw_bytes : Session → List ℕ → (room : ℕ) → Result (List ℕ)
draw_bytes s bs room = if_sound s (if_room room (if_even bs (judged_page s (words_in bs))))
