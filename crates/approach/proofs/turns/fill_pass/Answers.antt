-- `fill_pass` meets its contract. Assumes nothing.
use Rattle.approach.proofs.Fill.{pass_none, pass_filled}
use Rattle.approach.proofs.turns.fill_pass.Goals as goal

pub returns-then-pass-eq0 : goal.returns-then-pass-eq0
returns-then-pass-eq0 c = pass_none _ _ _ _ _ c.if-pass-eq0.true

pub fill_window-requires : goal.fill_window-requires
fill_window-requires c = (c.obs_pca_time.ensures.1, c.requires.1)

pub shape_of-table : goal.shape_of-table
shape_of-table c = c.fill_window.ensures.kept.same

pub returns : goal.returns
returns c =
    pass_filled _ _ _ _ _ _ _ c.obs_pca_time.ensures.0 c.requires.0 c.fill_window.ensures
