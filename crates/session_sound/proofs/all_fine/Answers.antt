-- `all_fine` asks so of each name.
use Rattle.std.proofs.Common.{sym, ◌∙◌, Bool, None, length, ◌≤◌, take_all, arith}
use Rattle.std.proofs.lemmas.List.Folds.{list_all_more, list_all_at}
use Rattle.count.specs.TruthLaws.{and_yes}
use Rattle.board_block.specs.View.{block_of}
use Rattle.session_rules.specs.Sound.{kept_fine?}
use Rattle.session_names.specs.Names.{Stored, kept_in}
use Rattle.session_sound.specs.Room.{layout_roomy, all_roomy}
use Rattle.session_sound.specs.RoomLaws.{fine_all}
use Rattle.session_sound.proofs.all_fine.Goals as goal

pub loop-layout-preserved : goal.loop-layout-preserved
loop-layout-preserved c =
    let b = block_of c.args.b in
    let names = c.args.names in
    let at = c.loop-layout in
    let p : Stored → Bool = layout_roomy b in
    let q : Stored → Bool = λ k. kept_fine? b (kept_in k) in (
      rw (list_all_more p names at.layout-index None (omega arith)) (and_yes _ _ at.invariant.0 (sym c.is_fine.ensures.0 ∙ c.if-not-is_fine.false)),
      λ within. rw (list_all_more q names at.layout-index None (omega arith))
          (and_yes _ _ (at.invariant.1 within) (sym (c.is_fine.ensures.1 within) ∙ c.if-not-is_fine.false)),
    )

pub returns-then-not-is_fine-clause-value : goal.returns-then-not-is_fine-clause-value
unfolding all_roomy
returns-then-not-is_fine-clause-value c =
    let b = block_of c.args.b in
    let names = c.args.names in
    let at = c.loop-layout in
    let p : Stored → Bool = layout_roomy b in
    let q : Stored → Bool = λ k. kept_fine? b (kept_in k) in (
      sym (list_all_at p names at.layout-index None (omega arith) (sym c.is_fine.ensures.0 ∙ c.if-not-is_fine.true)),
      λ within. sym (list_all_at q names at.layout-index None (omega arith) (sym (c.is_fine.ensures.1 within) ∙ c.if-not-is_fine.true))
          ∙ fine_all b names,
    )

pub returns-clause-value : goal.returns-clause-value
unfolding all_roomy
returns-clause-value c =
    let b = block_of c.args.b in
    let names = c.args.names in
    let at = c.loop-layout in
    let end : length names ≤ at.layout-index = omega arith in (
      sym (rw (take_all at.layout-index names end) at at.invariant.0),
      λ within. sym (rw (take_all at.layout-index names end) at (at.invariant.1 within)) ∙ fine_all b names,
    )
