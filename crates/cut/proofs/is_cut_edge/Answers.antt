use Rattle.cut.proofs.is_cut_edge.Goals as goal

pub returns-in-Row : goal.returns-in-Row
returns-in-Row c = rw c.in-Row.is c.is_edge.ensures.same

pub returns-in-Column : goal.returns-in-Column
returns-in-Column c = rw c.in-Column.is c.is_edge-in-Column.ensures.same
