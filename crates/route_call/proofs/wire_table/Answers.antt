-- `wire_table` hands back a routing: the parts promise what the laws `fits-buffer` and `handed-back` ask for.
use native.Mathlib.Omega.{arith}
use mathlib.Core.Path.{sym}
use Rattle.board.specs.ViewLaws.{height_of}
use Rattle.session.specs.View.{session_of}
use Rattle.route_call.specs.Starting.{first_low}
use Rattle.route_call.specs.Ending.{fits-buffer, handed-back}
use Rattle.route_call.proofs.wire_table.Goals as goal

pub fill_lines-requires : goal.fill_lines-requires
fill_lines-requires c =
    let board = c.args.s.block.board in
    let W = c.requires.sound.0.within in
    (omega (arith, height_of board, W.some), omega (arith, height_of board, W.few))

pub cut_all-requires : goal.cut_all-requires
cut_all-requires c =
    let args = c.args in
    let S = c.requires.sound.0 in
    let F = c.requires.sound.1 in
    let low = first_low c.first_work-work.result args.s.block.board.count args.n c.first_work-work.ensures
    (omega (arith, height_of args.s.block.board, S.within.few)) F.most in
    (low.0, low.1, low.2, low.3, F.table.clear.low)

pub write_paths-requires : goal.write_paths-requires
write_paths-requires c =
    let args = c.args in
    fits-buffer (session_of args.s) c.requires.sound.0 (sym (height_of args.s.block.board)) c.fill_lines.new.lines c.fill_lines.ensures
    args.table.now args.notes.now c.requires.sound.1 c.first_work-work.result c.first_work-work.ensures _ c.cut_all.new.notes _
    c.cut_all.ensures.cut_all
    c.requires.s_in_bounds

pub returns : goal.returns
returns c =
    let args = c.args in
    handed-back (session_of args.s) c.requires.sound.0 (sym (height_of args.s.block.board)) c.fill_lines.new.lines c.fill_lines.ensures
    args.table.now args.notes.now c.requires.sound.1 c.first_work-work.result c.first_work-work.ensures _ c.cut_all.new.notes _
    c.cut_all.ensures.cut_all
    c.write_paths.ensures.value c.write_paths.ensures.out_after
