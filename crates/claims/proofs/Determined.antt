-- One line for each public function: its contract leaves no choice of the result, nor of what a lent buffer then
-- holds.
use mathlib.Core.Path.{◌≡◌, sym, ◌∙◌}
use mathlib.Core.Bool.{true}
use mathlib.Core.List.{List, []}
use lib.IntN.{pos}
use Rattle.job.specs.Carried.{no_building}
use Prim.Native.Nat.{ℕ}
use Rattle.claims.specs.Contract.{OneAnswer, OneAnswerAndBuffer}
use Rattle.claims.proofs.Contracts as of
use Rattle.page.specs.Writing.{Put}

-- two results that equal one value are equal; and so are two results and two buffers
same : {A : Type 0} {v r s : A} → r ≡ v → s ≡ v → r ≡ s
same p q = p ∙ sym q

same-both : {A B : Type 0} {v r r' : A} {w s s' : B} → (r ≡ v) × (s ≡ w) → (r' ≡ v) × (s' ≡ w) → (r ≡ r') × (s ≡ s')
same-both p q = (same p.0 q.0, same p.1 q.1)

-- and two results and two pairs of buffers
same-three : {A B C : Type 0} {v r r' : A} {w s s' : B} {x t t' : C} → (r ≡ v) × (s ≡ w) × (t ≡ x)
    → (r' ≡ v) × (s' ≡ w) × (t' ≡ x) → (r ≡ r') × (◌≡◌ {A = B × C} (s, t) (s', t'))
same-three p q = (same p.0 q.0, λ i. (same p.1 q.1 i, same p.2 q.2 i))

same-put : {b t m m' : List ℕ} {i r r' : ℕ} → Put b i t m r → Put b i t m' r' → (r ≡ r') × (m ≡ m')
same-put p q = (same p.end q.end, same p.bytes q.bytes)

-- ---- whole

magnitude-determined : OneAnswer of.magnitude.Post
magnitude-determined κ a r r' s s' p q = same p q

common-divisor-determined : OneAnswer of.common-divisor.Post
common-divisor-determined κ a r r' s s' p q = same p q

newtons-determined : OneAnswer of.newtons.Post
newtons-determined κ a r r' s s' p q = same p q

remainder-determined : OneAnswer of.remainder.Post
remainder-determined κ a r r' s s' p q = same p q

-- ---- pair

of-units-determined : OneAnswer of.of-units.Post
of-units-determined κ a r r' s s' p q = same p q

is-within-determined : OneAnswer of.is-within.Post
is-within-determined κ a r r' s s' p q = same p q

sum-determined : OneAnswer of.sum.Post
sum-determined κ a r r' s s' p q = same p q

difference-determined : OneAnswer of.difference.Post
difference-determined κ a r r' s s' p q = same p q

less-determined : OneAnswer of.less.Post
less-determined κ a r r' s s' p q = same p q

as-units-determined : OneAnswer of.as-units.Post
as-units-determined κ a r r' s s' p q = same p q

-- ---- verdict

or-then-determined : OneAnswer of.or-then.Post
or-then-determined κ a r r' s s' p q = same p q

-- ---- page

put-byte-determined : OneAnswerAndBuffer of.put-byte.Post (λ κ s. s.0.now)
put-byte-determined κ a r r' s s' p q = same-put p q

put-bytes-determined : OneAnswerAndBuffer of.put-bytes.Post (λ κ s. s.0.now)
put-bytes-determined κ a r r' s s' p q = same-put p q

emit-determined : OneAnswerAndBuffer of.emit.Post (λ κ s. s.1.1.0.now)
emit-determined κ a r r' s s' p q = same-both p q

-- ---- sharing

share-determined : OneAnswerAndBuffer of.share.Post (λ κ s. s.1.0.now)
share-determined κ a r r' s s' p q = same-both p q

-- ---- text

put-natural-determined : OneAnswerAndBuffer of.put-natural.Post (λ κ s. s.0.now)
put-natural-determined κ a r r' s s' p q = same-put p q

put-decimal-determined : OneAnswerAndBuffer of.put-decimal.Post (λ κ s. s.0.now)
put-decimal-determined κ a r r' s s' p q = same-put p q

write-decimal-determined : OneAnswerAndBuffer of.write-decimal.Post (λ κ s. s.1.0.now)
write-decimal-determined κ a r r' s s' p q = same-both p q

-- ---- form

field-of-determined : OneAnswer of.field-of.Post
field-of-determined κ a r r' s s' p q = same p q

-- ---- lines

line-at-determined : OneAnswer of.line-at.Post
line-at-determined κ a r r' s s' p q = same p q

field-at-determined : OneAnswer of.field-at.Post
field-at-determined κ a r r' s s' p q = same p q

held-count-determined : OneAnswer of.held-count.Post
held-count-determined κ a r r' s s' p q = same p q

-- ---- line

put-field-determined : OneAnswerAndBuffer of.put-field.Post (λ κ s. s.0.now)
put-field-determined κ a r r' s s' p q = same-put p q

put-line-determined : OneAnswerAndBuffer of.put-line.Post (λ κ s. s.0.now)
put-line-determined κ a r r' s s' p q = same-put p q

-- ---- building

building-fault-determined : OneAnswer of.building-fault.Post
building-fault-determined κ a r r' s s' p q = same p q

given-fault-determined : OneAnswer of.given-fault.Post
given-fault-determined κ a r r' s s' p q = same p q

zone-on-determined : OneAnswer of.zone-on.Post
zone-on-determined κ a r r' s s' p q = same p q

up-to-determined : OneAnswer of.up-to.Post
up-to-determined κ a r r' s s' p q = same p q

knows-determined : OneAnswer of.knows.Post
knows-determined κ a r r' s s' p q = same p q

single-determined : OneAnswer of.single.Post
single-determined κ a r r' s s' p q = same p q

on-walls-determined : OneAnswer of.on-walls.Post
on-walls-determined κ a r r' s s' p q = same p q

wall-place-determined : OneAnswer of.wall-place.Post
wall-place-determined κ a r r' s s' p q = same p q

ranged-determined : OneAnswer of.ranged.Post
ranged-determined κ a r r' s s' p q = same p q

building-field-spot-determined : OneAnswer of.building-field-spot.Post
building-field-spot-determined κ a r r' s s' p q = same (p (pos 0) no_building) (q (pos 0) no_building)

building-spot-determined : OneAnswer of.building-spot.Post
building-spot-determined κ a r r' s s' p q = same p q

beyond-determined : OneAnswer of.beyond.Post
beyond-determined κ a r r' s s' p q = same p q

too-long-determined : OneAnswer of.too-long.Post
too-long-determined κ a r r' s s' p q = same p q

sized-determined : OneAnswer of.sized.Post
sized-determined κ a r r' s s' p q = same p q

asked-determined : OneAnswer of.asked.Post
asked-determined κ a r r' s s' p q = same p q

-- ---- book

outside-determined : OneAnswer of.outside.Post
outside-determined κ a r r' s s' p q = same p q

wall-zones-determined : OneAnswer of.wall-zones.Post
wall-zones-determined κ a r r' s s' p q = same p q

roof-zones-determined : OneAnswer of.roof-zones.Post
roof-zones-determined κ a r r' s s' p q = same p q

net-determined : OneAnswer of.net.Post
net-determined κ a r r' s s' p q = same p q

-- ---- entry

size-of-determined : OneAnswer of.size-of.Post
size-of-determined κ a r r' s s' p q = same p q

number-of-determined : OneAnswer of.number-of.Post
number-of-determined κ a r r' s s' p q = same p q

letter-of-determined : OneAnswer of.letter-of.Post
letter-of-determined κ a r r' s s' p q = same p q

is-dash-determined : OneAnswer of.is-dash.Post
is-dash-determined κ a r r' s s' p q = same p q

building-of-determined : OneAnswer of.building-of.Post
building-of-determined κ a r r' s s' p q = same p q

year-of-determined : OneAnswer of.year-of.Post
year-of-determined κ a r r' s s' p q = same p q

step-of-determined : OneAnswer of.step-of.Post
step-of-determined κ a r r' s s' p q = same p q

has-heights-determined : OneAnswer of.has-heights.Post
has-heights-determined κ a r r' s s' p q = same p q

has-long-sheds-determined : OneAnswer of.has-long-sheds.Post
has-long-sheds-determined κ a r r' s s' p q = same p q

face-limit-determined : OneAnswer of.face-limit.Post
face-limit-determined κ a r r' s s' p q = same p q

carried-face-determined : OneAnswer of.carried-face.Post
carried-face-determined κ a r r' s s' p q = same p q

wind-of-determined : OneAnswer of.wind-of.Post
wind-of-determined κ a r r' s s' p q = same p q

internal-of-determined : OneAnswer of.internal-of.Post
internal-of-determined κ a r r' s s' p q = same p q

face-of-determined : OneAnswer of.face-of.Post
face-of-determined κ a r r' s s' p q = same p q

-- ---- fields

building-line-determined : OneAnswer of.building-line.Post
building-line-determined κ a r r' s s' p q = same p q

year-line-determined : OneAnswer of.year-line.Post
year-line-determined κ a r r' s s' p q = same p q

step-line-determined : OneAnswer of.step-line.Post
step-line-determined κ a r r' s s' p q = same p q

wind-line-determined : OneAnswer of.wind-line.Post
wind-line-determined κ a r r' s s' p q = same p q

internal-line-determined : OneAnswer of.internal-line.Post
internal-line-determined κ a r r' s s' p q = same p q

face-line-determined : OneAnswer of.face-line.Post
face-line-determined κ a r r' s s' p q = same p q

-- ---- rules

section-count-determined : OneAnswer of.section-count.Post
section-count-determined κ a r r' s s' p q = same p q

section-at-determined : OneAnswer of.section-at.Post
section-at-determined κ a r r' s s' p q = same p q

limits-of-determined : OneAnswer of.limits-of.Post
limits-of-determined κ a r r' s s' p q =
    λ k. record { least = same p.0 q.0 k; most = same p.1 q.1 k }

section-letter-determined : OneAnswer of.section-letter.Post
section-letter-determined κ a r r' s s' p q = same p q

count-line-determined : OneAnswer of.count-line.Post
count-line-determined κ a r r' s s' p q = same p q

count-fault-determined : OneAnswer of.count-fault.Post
count-fault-determined κ a r r' s s' p q = same p q

year-fault-determined : OneAnswer of.year-fault.Post
year-fault-determined κ a r r' s s' p q = same p q

step-fault-determined : OneAnswer of.step-fault.Post
step-fault-determined κ a r r' s s' p q = same p q

wind-fault-determined : OneAnswer of.wind-fault.Post
wind-fault-determined κ a r r' s s' p q = same p q

internal-fault-determined : OneAnswer of.internal-fault.Post
internal-fault-determined κ a r r' s s' p q = same p q

face-fault-determined : OneAnswer of.face-fault.Post
face-fault-determined κ a r r' s s' p q = same p q

line-fault-determined : OneAnswer of.line-fault.Post
line-fault-determined κ a r r' s s' p q = same p q

count-of-determined : OneAnswer of.count-of.Post
count-of-determined κ a r r' s s' p q = same p q

formed-at-determined : OneAnswer of.formed-at.Post
formed-at-determined κ a r r' s s' p q = same (p true) (q true)

in-form-determined : OneAnswer of.in-form.Post
in-form-determined κ a r r' s s' p q = same p q

line-spot-determined : OneAnswer of.line-spot.Post
line-spot-determined κ a r r' s s' p q = same p q

field-spot-determined : OneAnswer of.field-spot.Post
field-spot-determined κ a r r' s s' p q = same (p []) (q [])

-- ---- job

entry-count-determined : OneAnswer of.entry-count.Post
entry-count-determined κ a r r' s s' p q = same p q

no-face-determined : OneAnswer of.no-face.Post
no-face-determined κ a r r' s s' p q = same p q

with-faces-determined : OneAnswer of.with-faces.Post
with-faces-determined κ a r r' s s' p q = same p q

new-face-fault-determined : OneAnswer of.new-face-fault.Post
new-face-fault-determined κ a r r' s s' p q = same p q

judge-determined : OneAnswer of.judge.Post
judge-determined κ a r r' s s' p q = same p q

-- ---- sheet

read-sheet-determined : OneAnswer of.read-sheet.Post
read-sheet-determined κ a r r' s s' p q = same p q

read-into-determined : OneAnswerAndBuffer of.read-into.Post (λ κ s. s.1.0.now)
read-into-determined κ a r r' s s' p q = same-both p q

verdict-of-determined : OneAnswer of.verdict-of.Post
verdict-of-determined κ a r r' s s' p q = same p q

-- ---- slip

slip-of-determined : OneAnswer of.slip-of.Post
slip-of-determined κ a r r' s s' p q = same p q

-- ---- mend

mend-determined : OneAnswerAndBuffer of.mend.Post {B = List ℕ × List ℕ}
    (λ κ s. (s.1.0.now, s.1.1.0.now))
mend-determined κ a r r' s s' p q = same-three p q

-- ---- rose

rose-new-determined : OneAnswer of.rose-new.Post
rose-new-determined κ a r r' s s' p q = same p q

rose-take-determined : OneAnswer of.rose-take.Post
rose-take-determined κ a r r' s s' p q = same p q

rose-end-determined : OneAnswer of.rose-end.Post
rose-end-determined κ a r r' s s' p q = same p q

-- ---- written

write-sheet-determined : OneAnswerAndBuffer of.write-sheet.Post (λ κ s. s.1.0.now)
write-sheet-determined κ a r r' s s' p q = same-both p q

-- ---- worst

worst-cases-determined : OneAnswer of.worst-cases.Post
worst-cases-determined κ a r r' s s' p q = same p q

worst-in-determined : OneAnswer of.worst-in.Post
worst-in-determined κ a r r' s s' p q = same p q

all-within-determined : OneAnswer of.all-within.Post
all-within-determined κ a r r' s s' p q = same p q

sums-of-determined : OneAnswer of.sums-of.Post
sums-of-determined κ a r r' s s' p q = same p q

worst-stored-determined : OneAnswer of.worst-stored.Post
worst-stored-determined κ a r r' s s' p q = same p q

forces-of-determined : OneAnswer of.forces-of.Post
forces-of-determined κ a r r' s s' p q = same p q

under-wind-determined : OneAnswer of.under-wind.Post
under-wind-determined κ a r r' s s' p q = same p q

-- ---- plain

plain-cases-determined : OneAnswer of.plain-cases.Post
plain-cases-determined κ a r r' s s' p q = same p q

-- ---- report

write-report-determined : OneAnswerAndBuffer of.write-report.Post (λ κ s. s.1.0.now)
write-report-determined κ a r r' s s' p q = same-both p q

write-read-determined : OneAnswerAndBuffer of.write-read.Post (λ κ s. s.1.0.now)
write-read-determined κ a r r' s s' p q = same-both p q

write-stored-determined : OneAnswerAndBuffer of.write-stored.Post (λ κ s. s.1.1.0.now)
write-stored-determined κ a r r' s s' p q = same-both p q

write-plain-determined : OneAnswerAndBuffer of.write-plain.Post (λ κ s. s.1.0.now)
write-plain-determined κ a r r' s s' p q = same-both p q

write-totals-determined : OneAnswerAndBuffer of.write-totals.Post (λ κ s. s.1.0.now)
write-totals-determined κ a r r' s s' p q = same-both p q

-- ---- panel

panel-of-determined : OneAnswer of.panel-of.Post
panel-of-determined κ a r r' s s' p q = same p q

chart-determined : OneAnswer of.chart.Post
chart-determined κ a r r' s s' p q = same p q

panel-of-newtons-determined : OneAnswer of.panel-of-newtons.Post
panel-of-newtons-determined κ a r r' s s' p q = same p q

chart-of-pairs-determined : OneAnswer of.chart-of-pairs.Post
chart-of-pairs-determined κ a r r' s s' p q = same p q

-- ---- answers

no-text-determined : OneAnswer of.no-text.Post
no-text-determined κ a r r' s s' p q = same p q

text-of-determined : OneAnswer of.text-of.Post
text-of-determined κ a r r' s s' p q = same p q

coefficient-of-determined : OneAnswer of.coefficient-of.Post
coefficient-of-determined κ a r r' s s' p q = same p q

double-of-determined : OneAnswer of.double-of.Post
double-of-determined κ a r r' s s' p q = same p q

no-extreme-determined : OneAnswer of.no-extreme.Post
no-extreme-determined κ a r r' s s' p q = same p q

line-of-determined : OneAnswer of.line-of.Post
line-of-determined κ a r r' s s' p q = same p q

-- ---- edits

add-face-determined : OneAnswer of.add-face.Post
add-face-determined κ a r r' s s' p q = same p q

replace-face-determined : OneAnswer of.replace-face.Post
replace-face-determined κ a r r' s s' p q = same p q

take-out-face-determined : OneAnswer of.take-out-face.Post
take-out-face-determined κ a r r' s s' p q = same p q

-- ---- worksheet

open-sheet-determined : OneAnswer of.open-sheet.Post
open-sheet-determined κ a r r' s s' p q = same p q

add-determined : OneAnswer of.add.Post
add-determined κ a r r' s s' p q = same p q

replace-determined : OneAnswer of.replace.Post
replace-determined κ a r r' s s' p q = same p q

take-out-determined : OneAnswer of.take-out.Post
take-out-determined κ a r r' s s' p q = same p q

-- ---- column

on-axis-determined : OneAnswer of.on-axis.Post
on-axis-determined κ a r r' s s' p q = same p q

shown-of-determined : OneAnswer of.shown-of.Post
shown-of-determined κ a r r' s s' p q = same p q

column-of-determined : OneAnswerAndBuffer of.column-of.Post (λ κ s. s.1.1.0.now)
column-of-determined κ a r r' s s' p q = same-both p q

column-in-determined : OneAnswerAndBuffer of.column-in.Post (λ κ s. s.1.1.1.0.now)
column-in-determined κ a r r' s s' p q = same-both p q

gather-determined : OneAnswer of.gather.Post
gather-determined κ a r r' s s' p q = same p q

-- ---- account

no-account-determined : OneAnswer of.no-account.Post
no-account-determined κ a r r' s s' p q = same p q

account-of-determined : OneAnswer of.account-of.Post
account-of-determined κ a r r' s s' p q = same p q

-- ---- aralimogga

aral-read-determined : OneAnswer of.aral-read.Post
aral-read-determined κ a r r' s s' p q = same p q

aral-where-determined : OneAnswer of.aral-where.Post
aral-where-determined κ a r r' s s' p q = same p q

aral-rewrite-determined : OneAnswerAndBuffer of.aral-rewrite.Post (λ κ s. s.1.0.now)
aral-rewrite-determined κ a r r' s s' p q = same-both p q

aral-report-determined : OneAnswerAndBuffer of.aral-report.Post (λ κ s. s.1.0.now)
aral-report-determined κ a r r' s s' p q = same-both p q

aral-plain-determined : OneAnswerAndBuffer of.aral-plain.Post (λ κ s. s.1.0.now)
aral-plain-determined κ a r r' s s' p q = same-both p q

aral-column-determined : OneAnswerAndBuffer of.aral-column.Post (λ κ s. s.1.1.1.0.now)
aral-column-determined κ a r r' s s' p q = same-both p q

aral-mend-determined : OneAnswerAndBuffer of.aral-mend.Post {B = List ℕ × List ℕ}
    (λ κ s. (s.1.0.now, s.1.1.0.now))
aral-mend-determined κ a r r' s s' p q = same-three p q

aral-total-determined : OneAnswer of.aral-total.Post
aral-total-determined κ a r r' s s' p q = same p q

aral-share-determined : OneAnswer of.aral-share.Post
aral-share-determined κ a r r' s s' p q = same p q

aral-open-determined : OneAnswer of.aral-open.Post
aral-open-determined κ a r r' s s' p q = same p q

aral-add-determined : OneAnswer of.aral-add.Post
aral-add-determined κ a r r' s s' p q = same p q

aral-replace-determined : OneAnswer of.aral-replace.Post
aral-replace-determined κ a r r' s s' p q = same p q

aral-take-out-determined : OneAnswer of.aral-take-out.Post
aral-take-out-determined κ a r r' s s' p q = same p q

aral-show-determined : OneAnswerAndBuffer of.aral-show.Post (λ κ s. s.1.0.now)
aral-show-determined κ a r r' s s' p q = same-both p q

aral-write-determined : OneAnswerAndBuffer of.aral-write.Post (λ κ s. s.1.0.now)
aral-write-determined κ a r r' s s' p q = same-both p q

aral-rose-new-determined : OneAnswer of.aral-rose-new.Post
aral-rose-new-determined κ a r r' s s' p q = same p q

aral-rose-take-determined : OneAnswer of.aral-rose-take.Post
aral-rose-take-determined κ a r r' s s' p q = same p q

aral-rose-end-determined : OneAnswer of.aral-rose-end.Post
aral-rose-end-determined κ a r r' s s' p q = same p q

aral-outside-determined : OneAnswer of.aral-outside.Post
aral-outside-determined κ a r r' s s' p q = same p q

aral-net-determined : OneAnswer of.aral-net.Post
aral-net-determined κ a r r' s s' p q = same p q

aral-digits-determined : OneAnswerAndBuffer of.aral-digits.Post (λ κ s. s.1.0.now)
aral-digits-determined κ a r r' s s' p q = same-both p q

aral-panel-determined : OneAnswer of.aral-panel.Post
aral-panel-determined κ a r r' s s' p q = same p q

aral-chart-determined : OneAnswer of.aral-chart.Post
aral-chart-determined κ a r r' s s' p q = same p q

aral-panel-newtons-determined : OneAnswer of.aral-panel-newtons.Post
aral-panel-newtons-determined κ a r r' s s' p q = same p q

aral-chart-newtons-determined : OneAnswer of.aral-chart-newtons.Post
aral-chart-newtons-determined κ a r r' s s' p q = same p q

-- ---- unkept

unkept-replace-determined : OneAnswer of.unkept-replace.Post
unkept-replace-determined κ a r r' s s' p q = same p q

unkept-show-determined : OneAnswerAndBuffer of.unkept-show.Post (λ κ s. s.1.0.now)
unkept-show-determined κ a r r' s s' p q = same-both p q
