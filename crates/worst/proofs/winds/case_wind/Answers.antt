-- `winds::case_wind` meets its contract: the coefficients are those that are found for zone F.
use Rattle.worst.proofs.winds.case_wind.Goals as goal

pub returns : goal.returns
returns c =
    let a = c.args in
    let o = c.found-outside.ensures in
    ((λ j. record { wind = a.wind; outside = o.0 j }), o.1)
