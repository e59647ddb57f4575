-- `point_in`: each field is the low or the high of its axis' panel.
use Rattle.panel.proofs.point_in.Goals as goal

pub returns : goal.returns
returns c = cc
