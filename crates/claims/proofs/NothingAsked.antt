-- One line for each public function: "no entry point relies on its caller having checked anything".
use Rattle.claims.specs.Contract.{AsksNothing}
use Rattle.claims.proofs.Contracts as of

-- ---- whole

magnitude-asks : AsksNothing of.magnitude.Asked
magnitude-asks κ a = tt

common-divisor-asks : AsksNothing of.common-divisor.Asked
common-divisor-asks κ a = tt

newtons-asks : AsksNothing of.newtons.Asked
newtons-asks κ a = tt

remainder-asks : AsksNothing of.remainder.Asked
remainder-asks κ a = tt

-- ---- pair

of-units-asks : AsksNothing of.of-units.Asked
of-units-asks κ a = tt

is-within-asks : AsksNothing of.is-within.Asked
is-within-asks κ a = tt

sum-asks : AsksNothing of.sum.Asked
sum-asks κ a = tt

difference-asks : AsksNothing of.difference.Asked
difference-asks κ a = tt

less-asks : AsksNothing of.less.Asked
less-asks κ a = tt

as-units-asks : AsksNothing of.as-units.Asked
as-units-asks κ a = tt

-- ---- verdict

or-then-asks : AsksNothing of.or-then.Asked
or-then-asks κ a = tt

-- ---- page

put-byte-asks : AsksNothing of.put-byte.Asked
put-byte-asks κ a = tt

put-bytes-asks : AsksNothing of.put-bytes.Asked
put-bytes-asks κ a = tt

emit-asks : AsksNothing of.emit.Asked
emit-asks κ a = tt

-- ---- sharing

share-asks : AsksNothing of.share.Asked
share-asks κ a = tt

-- ---- text

put-natural-asks : AsksNothing of.put-natural.Asked
put-natural-asks κ a = tt

put-decimal-asks : AsksNothing of.put-decimal.Asked
put-decimal-asks κ a = tt

write-decimal-asks : AsksNothing of.write-decimal.Asked
write-decimal-asks κ a = tt

-- ---- form

field-of-asks : AsksNothing of.field-of.Asked
field-of-asks κ a = tt

-- ---- lines

line-at-asks : AsksNothing of.line-at.Asked
line-at-asks κ a = tt

field-at-asks : AsksNothing of.field-at.Asked
field-at-asks κ a = tt

held-count-asks : AsksNothing of.held-count.Asked
held-count-asks κ a = tt

-- ---- line

put-field-asks : AsksNothing of.put-field.Asked
put-field-asks κ a = tt

put-line-asks : AsksNothing of.put-line.Asked
put-line-asks κ a = tt

-- ---- building

building-fault-asks : AsksNothing of.building-fault.Asked
building-fault-asks κ a = tt

given-fault-asks : AsksNothing of.given-fault.Asked
given-fault-asks κ a = tt

zone-on-asks : AsksNothing of.zone-on.Asked
zone-on-asks κ a = tt

up-to-asks : AsksNothing of.up-to.Asked
up-to-asks κ a = tt

knows-asks : AsksNothing of.knows.Asked
knows-asks κ a = tt

single-asks : AsksNothing of.single.Asked
single-asks κ a = tt

on-walls-asks : AsksNothing of.on-walls.Asked
on-walls-asks κ a = tt

wall-place-asks : AsksNothing of.wall-place.Asked
wall-place-asks κ a = tt

ranged-asks : AsksNothing of.ranged.Asked
ranged-asks κ a = tt

building-field-spot-asks : AsksNothing of.building-field-spot.Asked
building-field-spot-asks κ a = tt

building-spot-asks : AsksNothing of.building-spot.Asked
building-spot-asks κ a = tt

beyond-asks : AsksNothing of.beyond.Asked
beyond-asks κ a = tt

too-long-asks : AsksNothing of.too-long.Asked
too-long-asks κ a = tt

sized-asks : AsksNothing of.sized.Asked
sized-asks κ a = tt

asked-asks : AsksNothing of.asked.Asked
asked-asks κ a = tt

-- ---- book

outside-asks : AsksNothing of.outside.Asked
outside-asks κ a = tt

wall-zones-asks : AsksNothing of.wall-zones.Asked
wall-zones-asks κ a = tt

roof-zones-asks : AsksNothing of.roof-zones.Asked
roof-zones-asks κ a = tt

net-asks : AsksNothing of.net.Asked
net-asks κ a = tt

-- ---- entry

size-of-asks : AsksNothing of.size-of.Asked
size-of-asks κ a = tt

number-of-asks : AsksNothing of.number-of.Asked
number-of-asks κ a = tt

letter-of-asks : AsksNothing of.letter-of.Asked
letter-of-asks κ a = tt

is-dash-asks : AsksNothing of.is-dash.Asked
is-dash-asks κ a = tt

building-of-asks : AsksNothing of.building-of.Asked
building-of-asks κ a = tt

year-of-asks : AsksNothing of.year-of.Asked
year-of-asks κ a = tt

step-of-asks : AsksNothing of.step-of.Asked
step-of-asks κ a = tt

has-heights-asks : AsksNothing of.has-heights.Asked
has-heights-asks κ a = tt

has-long-sheds-asks : AsksNothing of.has-long-sheds.Asked
has-long-sheds-asks κ a = tt

face-limit-asks : AsksNothing of.face-limit.Asked
face-limit-asks κ a = tt

carried-face-asks : AsksNothing of.carried-face.Asked
carried-face-asks κ a = tt

wind-of-asks : AsksNothing of.wind-of.Asked
wind-of-asks κ a = tt

internal-of-asks : AsksNothing of.internal-of.Asked
internal-of-asks κ a = tt

face-of-asks : AsksNothing of.face-of.Asked
face-of-asks κ a = tt

-- ---- fields

building-line-asks : AsksNothing of.building-line.Asked
building-line-asks κ a = tt

year-line-asks : AsksNothing of.year-line.Asked
year-line-asks κ a = tt

step-line-asks : AsksNothing of.step-line.Asked
step-line-asks κ a = tt

wind-line-asks : AsksNothing of.wind-line.Asked
wind-line-asks κ a = tt

internal-line-asks : AsksNothing of.internal-line.Asked
internal-line-asks κ a = tt

face-line-asks : AsksNothing of.face-line.Asked
face-line-asks κ a = tt

-- ---- rules

section-count-asks : AsksNothing of.section-count.Asked
section-count-asks κ a = tt

section-at-asks : AsksNothing of.section-at.Asked
section-at-asks κ a = tt

limits-of-asks : AsksNothing of.limits-of.Asked
limits-of-asks κ a = tt

section-letter-asks : AsksNothing of.section-letter.Asked
section-letter-asks κ a = tt

count-line-asks : AsksNothing of.count-line.Asked
count-line-asks κ a = tt

count-fault-asks : AsksNothing of.count-fault.Asked
count-fault-asks κ a = tt

year-fault-asks : AsksNothing of.year-fault.Asked
year-fault-asks κ a = tt

step-fault-asks : AsksNothing of.step-fault.Asked
step-fault-asks κ a = tt

wind-fault-asks : AsksNothing of.wind-fault.Asked
wind-fault-asks κ a = tt

internal-fault-asks : AsksNothing of.internal-fault.Asked
internal-fault-asks κ a = tt

face-fault-asks : AsksNothing of.face-fault.Asked
face-fault-asks κ a = tt

line-fault-asks : AsksNothing of.line-fault.Asked
line-fault-asks κ a = tt

count-of-asks : AsksNothing of.count-of.Asked
count-of-asks κ a = tt

formed-at-asks : AsksNothing of.formed-at.Asked
formed-at-asks κ a = tt

in-form-asks : AsksNothing of.in-form.Asked
in-form-asks κ a = tt

line-spot-asks : AsksNothing of.line-spot.Asked
line-spot-asks κ a = tt

field-spot-asks : AsksNothing of.field-spot.Asked
field-spot-asks κ a = tt

-- ---- job

entry-count-asks : AsksNothing of.entry-count.Asked
entry-count-asks κ a = tt

no-face-asks : AsksNothing of.no-face.Asked
no-face-asks κ a = tt

with-faces-asks : AsksNothing of.with-faces.Asked
with-faces-asks κ a = tt

new-face-fault-asks : AsksNothing of.new-face-fault.Asked
new-face-fault-asks κ a = tt

judge-asks : AsksNothing of.judge.Asked
judge-asks κ a = tt

-- ---- sheet

read-sheet-asks : AsksNothing of.read-sheet.Asked
read-sheet-asks κ a = tt

read-into-asks : AsksNothing of.read-into.Asked
read-into-asks κ a = tt

verdict-of-asks : AsksNothing of.verdict-of.Asked
verdict-of-asks κ a = tt

-- ---- slip

slip-of-asks : AsksNothing of.slip-of.Asked
slip-of-asks κ a = tt

-- ---- mend

mend-asks : AsksNothing of.mend.Asked
mend-asks κ a = tt

-- ---- rose

rose-new-asks : AsksNothing of.rose-new.Asked
rose-new-asks κ a = tt

rose-take-asks : AsksNothing of.rose-take.Asked
rose-take-asks κ a = tt

rose-end-asks : AsksNothing of.rose-end.Asked
rose-end-asks κ a = tt

-- ---- written

write-sheet-asks : AsksNothing of.write-sheet.Asked
write-sheet-asks κ a = tt

-- ---- worst

worst-cases-asks : AsksNothing of.worst-cases.Asked
worst-cases-asks κ a = tt

worst-in-asks : AsksNothing of.worst-in.Asked
worst-in-asks κ a = tt

all-within-asks : AsksNothing of.all-within.Asked
all-within-asks κ a = tt

sums-of-asks : AsksNothing of.sums-of.Asked
sums-of-asks κ a = tt

worst-stored-asks : AsksNothing of.worst-stored.Asked
worst-stored-asks κ a = tt

forces-of-asks : AsksNothing of.forces-of.Asked
forces-of-asks κ a = tt

under-wind-asks : AsksNothing of.under-wind.Asked
under-wind-asks κ a = tt

-- ---- plain

plain-cases-asks : AsksNothing of.plain-cases.Asked
plain-cases-asks κ a = tt

-- ---- report

write-report-asks : AsksNothing of.write-report.Asked
write-report-asks κ a = tt

write-read-asks : AsksNothing of.write-read.Asked
write-read-asks κ a = tt

write-stored-asks : AsksNothing of.write-stored.Asked
write-stored-asks κ a = tt

write-plain-asks : AsksNothing of.write-plain.Asked
write-plain-asks κ a = tt

write-totals-asks : AsksNothing of.write-totals.Asked
write-totals-asks κ a = tt

-- ---- panel

panel-of-asks : AsksNothing of.panel-of.Asked
panel-of-asks κ a = tt

chart-asks : AsksNothing of.chart.Asked
chart-asks κ a = tt

panel-of-newtons-asks : AsksNothing of.panel-of-newtons.Asked
panel-of-newtons-asks κ a = tt

chart-of-pairs-asks : AsksNothing of.chart-of-pairs.Asked
chart-of-pairs-asks κ a = tt

-- ---- answers

no-text-asks : AsksNothing of.no-text.Asked
no-text-asks κ a = tt

text-of-asks : AsksNothing of.text-of.Asked
text-of-asks κ a = tt

coefficient-of-asks : AsksNothing of.coefficient-of.Asked
coefficient-of-asks κ a = tt

double-of-asks : AsksNothing of.double-of.Asked
double-of-asks κ a = tt

no-extreme-asks : AsksNothing of.no-extreme.Asked
no-extreme-asks κ a = tt

line-of-asks : AsksNothing of.line-of.Asked
line-of-asks κ a = tt

-- ---- edits

add-face-asks : AsksNothing of.add-face.Asked
add-face-asks κ a = tt

replace-face-asks : AsksNothing of.replace-face.Asked
replace-face-asks κ a = tt

take-out-face-asks : AsksNothing of.take-out-face.Asked
take-out-face-asks κ a = tt

-- ---- worksheet

open-sheet-asks : AsksNothing of.open-sheet.Asked
open-sheet-asks κ a = tt

add-asks : AsksNothing of.add.Asked
add-asks κ a = tt

replace-asks : AsksNothing of.replace.Asked
replace-asks κ a = tt

take-out-asks : AsksNothing of.take-out.Asked
take-out-asks κ a = tt

-- ---- column

on-axis-asks : AsksNothing of.on-axis.Asked
on-axis-asks κ a = tt

shown-of-asks : AsksNothing of.shown-of.Asked
shown-of-asks κ a = tt

column-of-asks : AsksNothing of.column-of.Asked
column-of-asks κ a = tt

column-in-asks : AsksNothing of.column-in.Asked
column-in-asks κ a = tt

gather-asks : AsksNothing of.gather.Asked
gather-asks κ a = tt

-- ---- account

no-account-asks : AsksNothing of.no-account.Asked
no-account-asks κ a = tt

account-of-asks : AsksNothing of.account-of.Asked
account-of-asks κ a = tt

-- ---- aralimogga

aral-read-asks : AsksNothing of.aral-read.Asked
aral-read-asks κ a = tt

aral-where-asks : AsksNothing of.aral-where.Asked
aral-where-asks κ a = tt

aral-rewrite-asks : AsksNothing of.aral-rewrite.Asked
aral-rewrite-asks κ a = tt

aral-report-asks : AsksNothing of.aral-report.Asked
aral-report-asks κ a = tt

aral-plain-asks : AsksNothing of.aral-plain.Asked
aral-plain-asks κ a = tt

aral-column-asks : AsksNothing of.aral-column.Asked
aral-column-asks κ a = tt

aral-mend-asks : AsksNothing of.aral-mend.Asked
aral-mend-asks κ a = tt

aral-total-asks : AsksNothing of.aral-total.Asked
aral-total-asks κ a = tt

aral-share-asks : AsksNothing of.aral-share.Asked
aral-share-asks κ a = tt

aral-open-asks : AsksNothing of.aral-open.Asked
aral-open-asks κ a = tt

aral-add-asks : AsksNothing of.aral-add.Asked
aral-add-asks κ a = tt

aral-replace-asks : AsksNothing of.aral-replace.Asked
aral-replace-asks κ a = tt

aral-take-out-asks : AsksNothing of.aral-take-out.Asked
aral-take-out-asks κ a = tt

aral-show-asks : AsksNothing of.aral-show.Asked
aral-show-asks κ a = tt

aral-write-asks : AsksNothing of.aral-write.Asked
aral-write-asks κ a = tt

aral-rose-new-asks : AsksNothing of.aral-rose-new.Asked
aral-rose-new-asks κ a = tt

aral-rose-take-asks : AsksNothing of.aral-rose-take.Asked
aral-rose-take-asks κ a = tt

aral-rose-end-asks : AsksNothing of.aral-rose-end.Asked
aral-rose-end-asks κ a = tt

aral-outside-asks : AsksNothing of.aral-outside.Asked
aral-outside-asks κ a = tt

aral-net-asks : AsksNothing of.aral-net.Asked
aral-net-asks κ a = tt

aral-digits-asks : AsksNothing of.aral-digits.Asked
aral-digits-asks κ a = tt

aral-panel-asks : AsksNothing of.aral-panel.Asked
aral-panel-asks κ a = tt

aral-chart-asks : AsksNothing of.aral-chart.Asked
aral-chart-asks κ a = tt

aral-panel-newtons-asks : AsksNothing of.aral-panel-newtons.Asked
aral-panel-newtons-asks κ a = tt

aral-chart-newtons-asks : AsksNothing of.aral-chart-newtons.Asked
aral-chart-newtons-asks κ a = tt

-- ---- unkept

unkept-replace-asks : AsksNothing of.unkept-replace.Asked
unkept-replace-asks κ a = tt

unkept-show-asks : AsksNothing of.unkept-show.Asked
unkept-show-asks κ a = tt
