-- Definitions only: the count of bytes, or the number and place, for each answer of the code. Nothing is proved here.
use Rattle.std.specs.Prelude as rust
use Rattle.std.specs.Prelude.{cond, ℕ, ltb, Ok, Err}
use Rattle.session_rules.specs.Refusal as machine
use Rattle.session_rules.specs.Refusal.{refusal}
use Rattle.session_rules.specs.Session.{Session}
use Rattle.session_rules.specs.Sound.{sound?}
use Rattle.call_rules.specs.Result.{Result}
use Rattle.call_rules.specs.Page.{page_room}
use Rattle.judge_shape.specs.Refused.{refusal_of}
use Rattle.judge_list.specs.Verdicts.{value_by}
use Rattle.judge_list.specs.declared.BytesRefusal.{BytesRefusal}
use Rattle.judge_list.specs.declared.BytesRefusal.TheVariants as bytes
use Rattle.draw_call.specs.declared.DrawRefusal.{DrawRefusal}
use Rattle.draw_call.specs.declared.DrawRefusal.TheVariants as drawing

-- the refusal of a list of bytes
abbrev pub of_bytes : BytesRefusal → DrawRefusal
of_bytes bytes.UnevenBytes = drawing.UnevenBytes
of_bytes (bytes.List r) = drawing.List r

-- as number and place
abbrev pub draw_refusal : DrawRefusal → machine.Refusal
draw_refusal drawing.Unsound = refusal 20 0
draw_refusal drawing.NoRoom = refusal 37 0
draw_refusal drawing.UnevenBytes = refusal 10 0
draw_refusal (drawing.List r) = refusal_of r

abbrev pub draw_answer : rust.Result ℕ DrawRefusal → Result ℕ
draw_answer a = value_by draw_refusal a

-- what is refused before the list is looked at
abbrev pub asked_first : Session → (room : ℕ) → rust.Result Unit DrawRefusal
asked_first s room = cond (sound? s) (cond (ltb room page_room) (Err drawing.NoRoom) (Ok tt)) (Err drawing.Unsound)
