-- `face_fault` meets its contract: each fault in its order.
-- what each test says
use mathlib.Core.Path.{◌≡◌, sym, ap, ◌∙◌}
use mathlib.Core.Bool.{Bool, false, not, ◌||◌}
use lib.IntN.{ℤ, pos}
use Rattle.whole.proofs.Size.{said}
use Rattle.building.specs.Places.{A, H, knows}
use Rattle.building.specs.Test.{among, is, beyond}
use Rattle.entry.specs.declared.Face.{Face}
use Rattle.entry.specs.Says.{both}
use Rattle.rules.specs.Faults.{most_height, area_fault}
use Rattle.rules.proofs.entries.face_fault.Goals.{After-beyond, After-is_marked, After-is_zone, After-off_area}
use Rattle.rules.proofs.entries.face_fault.Goals.{After-off_area-2, After-off_area-3, Else-beyond, Else-not-is_marked}
use Rattle.rules.proofs.entries.face_fault.Goals.{Else-not-is_zone, Else-off_area, Else-off_area-2}
use Rattle.rules.proofs.entries.face_fault.Goals as goal

no-zone : (c : After-is_zone) {t : Bool} → not c.is_zone.result ≡ t
    → not (among A H c.args.f.zone) ≡ t
no-zone c e = sym (ap not c.is_zone.ensures) ∙ e

module _ (c : After-is_marked) where
  abbrev zoned : Else-not-is_zone
  zoned = (goal.at.After-is_marked c).Else-not-is_zone

  unmarked : {t : Bool} → not c.is_marked.result ≡ t
      → let a = zoned.args in
      not (is both a.f.mark || knows a.b.building.kind a.f.mark) ≡ t
  unmarked e =
      let a = zoned.args in
      sym
      (ap not
      (said (λ (z : ℤ). is both z || knows a.b.building.kind z) a.f.mark c.is_marked.ensures
      c.struct_told-1.given.1.0.1))
      ∙ e

  is-zoned : not (among A H zoned.args.f.zone) ≡ false
  is-zoned = no-zone (goal.at.Else-not-is_zone zoned).After-is_zone (ap not zoned.if-not-is_zone.false)

module _ (c : After-beyond) where
  abbrev marked : Else-not-is_marked
  marked = (goal.at.After-beyond c).Else-not-is_marked

  off-height : {t : Bool} → c.beyond.result ≡ t
      → beyond (pos 0) most_height marked.args.f.height ≡ t
  off-height e =
      sym
      (said (beyond (pos 0) most_height) marked.args.f.height c.beyond.ensures
      c.struct_told-2-1.given.1.1.0.1)
      ∙ e

-- the face, from behind each test
abbrev args-3 : Else-beyond → Face
args-3 c = c.args.f

module _ (c : After-off_area) where
  abbrev to-x : Else-beyond
  to-x = (goal.at.After-off_area c).Else-beyond

  off-x : {t : Bool} → c.off_area.result ≡ t → (area_fault 0 (args-3 to-x).x).found ≡ t
  off-x e =
      sym
      (said (λ (z : ℤ). (area_fault 0 z).found) (args-3 to-x).x (c.off_area.ensures 0)
      c.struct_told-3-1.given.1.1.1.0.1)
      ∙ e

abbrev args-4 : Else-off_area → Face
args-4 c = args-3 (goal.at.Else-off_area c).Else-beyond

module _ (c : After-off_area-2) where
  abbrev to-y : Else-off_area
  to-y = (goal.at.After-off_area-2 c).Else-off_area

  off-y : {t : Bool} → c.off_area-2.result ≡ t → (area_fault 0 (args-4 to-y).y).found ≡ t
  off-y e =
      sym
      (said (λ (z : ℤ). (area_fault 0 z).found) (args-4 to-y).y (c.off_area-2.ensures 0)
      c.struct_told-4-1.given.1.1.1.1.0.1)
      ∙ e

abbrev args-5 : Else-off_area-2 → Face
args-5 c = args-4 (goal.at.Else-off_area-2 c).Else-off_area

module _ (c : After-off_area-3) where
  abbrev to-z : Else-off_area-2
  to-z = (goal.at.After-off_area-3 c).Else-off_area-2

  off-z : {t : Bool} → c.off_area-3.result ≡ t → (area_fault 0 (args-5 to-z).z).found ≡ t
  off-z e =
      sym
      (said (λ (z : ℤ). (area_fault 0 z).found) (args-5 to-z).z (c.off_area-3.ensures 0)
      c.struct_told-5-1.given.1.1.1.1.1.0.1)
      ∙ e

pub returns-then-not-is_zone : goal.returns-then-not-is_zone
returns-then-not-is_zone c = rw (no-zone (goal.at.returns-then-not-is_zone c).After-is_zone
    (ap not c.if-not-is_zone.true))

pub returns-then-not-is_marked : goal.returns-then-not-is_marked
returns-then-not-is_marked c =
    let at_is_marked = (goal.at.returns-then-not-is_marked c).After-is_marked in
    rw (is-zoned at_is_marked, unmarked at_is_marked (ap not c.if-not-is_marked.true))

pub returns-then-beyond : goal.returns-then-beyond
returns-then-beyond c =
    let at_is_marked = (goal.at.returns-then-beyond c).After-is_marked in
    let at_beyond = (goal.at.returns-then-beyond c).After-beyond in
    rw (
      is-zoned at_is_marked,
      unmarked at_is_marked (ap not c.if-not-is_marked.false),
      off-height at_beyond
          c.if-beyond.true,
    )

pub returns-then-off_area : goal.returns-then-off_area
returns-then-off_area c =
    let at_is_marked = (goal.at.returns-then-off_area c).After-is_marked in
    rw (
      is-zoned at_is_marked,
      unmarked at_is_marked (ap not c.if-not-is_marked.false),
      off-height (goal.at.returns-then-off_area c).After-beyond c.if-beyond.false,
      off-x (goal.at.returns-then-off_area c).After-off_area c.if-off_area.true,
    )

pub returns-then-off_area-2 : goal.returns-then-off_area-2
returns-then-off_area-2 c =
    let at_is_marked = (goal.at.returns-then-off_area-2 c).After-is_marked in
    rw (
      is-zoned at_is_marked,
      unmarked at_is_marked (ap not c.if-not-is_marked.false),
      off-height (goal.at.returns-then-off_area-2 c).After-beyond c.if-beyond.false,
      off-x (goal.at.returns-then-off_area-2 c).After-off_area c.if-off_area.false,
      off-y (goal.at.returns-then-off_area-2 c).After-off_area-2 c.if-off_area-2.true,
    )

pub returns-then-off_area-3 : goal.returns-then-off_area-3
returns-then-off_area-3 c =
    let at_is_marked = (goal.at.returns-then-off_area-3 c).After-is_marked in
    rw (
      is-zoned at_is_marked,
      unmarked at_is_marked (ap not c.if-not-is_marked.false),
      off-height (goal.at.returns-then-off_area-3 c).After-beyond c.if-beyond.false,
      off-x (goal.at.returns-then-off_area-3 c).After-off_area c.if-off_area.false,
      off-y (goal.at.returns-then-off_area-3 c).After-off_area-2 c.if-off_area-2.false,
      off-z (goal.at.returns-then-off_area-3 c).After-off_area-3 c.if-off_area-3.true,
    )

pub returns : goal.returns
returns c =
    let at_is_marked = (goal.at.returns c).After-is_marked in
    rw (
      is-zoned at_is_marked,
      unmarked at_is_marked (ap not c.if-not-is_marked.false),
      off-height (goal.at.returns c).After-beyond c.if-beyond.false,
      off-x (goal.at.returns c).After-off_area c.if-off_area.false,
      off-y (goal.at.returns c).After-off_area-2 c.if-off_area-2.false,
      off-z (goal.at.returns c).After-off_area-3 c.if-off_area-3.false,
    )
    c.place_fault.ensures
