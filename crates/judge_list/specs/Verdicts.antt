-- Definitions only: judging and comparing on a board with nets, and what the values of the code stand for. Nothing is proved here.
-- The code walks with a map of used edges (judge_walk, MapWalk). On a board within the limits that gives what document 01 lays down (VerdictLaws),
-- and two maps say when routings are alike, by document 02, §3 (ComparisonLaws).
use Rattle.std.specs.Prelude as rust
use Rattle.std.specs.Prelude.{◌≡◌, Bool, true, false, List, [], ◌∷◌, ℕ, Ok, Err}
use Rattle.board.specs.Board.{Board}
use Rattle.board_block.specs.Block.{plain}
use Rattle.board.specs.declared.Direction.{Direction}
use Rattle.net.specs.declared.Net.{Net}
use Rattle.session_rules.specs.Refusal as machine
use Rattle.session_rules.specs.Session.{Session, with_nets, pairs}
use Rattle.session_rules.specs.Sound.{bare}
use Rattle.words.specs.Bytes.{words_in, uneven}
use Rattle.call_rules.specs.Result.{Result, no, yes, and_then}
use Rattle.call_rules.specs.Shape.{paths_from}
use Rattle.call_rules.specs.Report as calls
use Rattle.call_rules.specs.Report.{report_of}
use Rattle.call_rules.specs.Judge.{paths_in, judged, of_list, alike_on}
use Rattle.judge_shape.specs.Refused.{number_of, refusal_of}
use Rattle.judge_shape.specs.States.{shape_refused}
use Rattle.judge_shape.specs.declared.Refusal.{Refusal}
use Rattle.judge_walk.specs.EdgeMap.{unused}
use Rattle.judge_walk.specs.MapWalk.{Came, stopped, came, unless_at, map_paths, path_end}
use Rattle.judge_report.specs.Reports.{report_is}
use Rattle.judge_report.specs.declared.Report.{Report}
use Rattle.judge_alike.specs.MapsAlike.{maps_alike}
use Rattle.judge_list.specs.Refusals.{which_number}
use Rattle.judge_list.specs.declared.BytesRefusal.{BytesRefusal}
use Rattle.judge_list.specs.declared.BytesRefusal.TheVariants as bytes
use Rattle.judge_list.specs.declared.ListRefusal.{ListRefusal}

-- ── with a map ──
-- the shape of the whole list, then its paths, with a map of the edges used before
unfoldable pub check_on : Board → List Net → List ℕ → (m : List ℕ) → Came (Unit {0})
check_on b ns ws m = unless_at m (shape_refused ns ws) (map_paths b (paths_from 0 ns ws) m)

-- what `check` promises: its answer r, and the map m' that it leaves
pub record Checks (b : Board) (ns : List Net) (ws : List ℕ) (m m' : List ℕ) (r : rust.Result Unit Refusal) : Type 0 where
  pub ends : path_end r m' ≡ check_on b ns ws m

-- the same of bytes: 10 where their count is not a multiple of 4, and then the map is untouched
abbrev pub BytesCheckedAs : Board → List Net → (bs m m' : List ℕ) → rust.Result Unit BytesRefusal → Type 0
BytesCheckedAs b ns bs m m' (Err bytes.UnevenBytes) = (uneven bs ≡ true) × (m' ≡ m)
BytesCheckedAs b ns bs m m' (Err (bytes.List r)) = (uneven bs ≡ false) × Checks b ns (words_in bs) m m' (Err r)
BytesCheckedAs b ns bs m m' (Ok u) = (uneven bs ≡ false) × Checks b ns (words_in bs) m m' (Ok u)

-- what `check_bytes` promises
pub record ChecksBytes (b : Board) (ns : List Net) (bs : List ℕ) (m m' : List ℕ) (r : rust.Result Unit BytesRefusal) : Type 0 where
  pub tells : BytesCheckedAs b ns bs m m' r

-- a value, where the check passes
abbrev pub passing : {A : Type 0} → Came (Unit {0}) → A → Result A
passing (stopped r m) x = no r
passing (came u m) x = yes x

-- the paths of a list that passes from no edge used, or its refusal
unfoldable pub judged_by : Board → List Net → List ℕ → Result (List (List Direction))
judged_by b ns ws = passing (check_on b ns ws unused) (paths_in (paths_from 0 ns ws))

abbrev pub verdict_by : Board → List Net → List ℕ → Result calls.Report
verdict_by b ns ws = and_then (judged_by b ns ws) (λ dss. yes (report_of (pairs ns) dss))

-- the map left by a check that passes, or its refusal
abbrev pub leaving : Came (Unit {0}) → Result (List ℕ)
leaving (stopped r m) = no r
leaving (came u m) = yes m

-- the map of a list that passes from no edge used, or its refusal
unfoldable pub map_by : Board → List Net → List ℕ → Result (List ℕ)
map_by b ns ws = leaving (check_on b ns ws unused)

abbrev pub comparison_by : Board → List Net → (vs ws : List ℕ) → Result Bool
comparison_by b ns vs ws = and_then (of_list 0 (map_by b ns vs)) (λ a. and_then (of_list 1 (map_by b ns ws)) (λ m. yes (maps_alike a m)))

-- ── as laid down, without refusal 20 ──
-- a session on a board, with these nets and an empty pile
abbrev pub on : Board → List Net → Session
on b ns = with_nets (bare (plain b)) ns []

abbrev pub verdict_on : Board → List Net → List ℕ → Result calls.Report
verdict_on b ns ws = and_then (judged (on b ns) ws) (λ dss. yes (report_of (pairs ns) dss))

abbrev pub comparison_on : Board → List Net → (vs ws : List ℕ) → Result Bool
comparison_on b ns vs ws =
    and_then (of_list 0 (judged (on b ns) vs)) (λ dss. and_then (of_list 1 (judged (on b ns) ws)) (λ ess. yes (alike_on (on b ns) dss ess)))

-- ── what the values of the code stand for ──
-- a report, or the refusal that a reason stands for
abbrev pub report_by : {R : Type 0} → (R → machine.Refusal) → rust.Result Report R → Result calls.Report
report_by f (Ok r) = yes (report_is r)
report_by f (Err r) = no (f r)

-- any other value, or the refusal that a reason stands for
abbrev pub value_by : {A R : Type 0} → (R → machine.Refusal) → rust.Result A R → Result A
value_by f (Ok a) = yes a
value_by f (Err r) = no (f r)

abbrev pub verdict_of : rust.Result Report Refusal → Result calls.Report
verdict_of v = report_by refusal_of v

abbrev pub list_refusal : ℕ → Refusal → machine.Refusal
list_refusal k r = record { number = number_of r.fault; place = k ∷ (r.place ∷ []) }

-- the refusal of one of two lists has the list's place number too
abbrev pub refusal_in : ListRefusal → machine.Refusal
refusal_in r = list_refusal (which_number r.list) r.refusal

abbrev pub comparison_of : rust.Result Bool ListRefusal → Result Bool
comparison_of c = value_by refusal_in c
