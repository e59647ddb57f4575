-- The records of include/aralimogga.h for each answer: accepted with what was asked for, or a refusal with zeros.
use Rattle.std.specs.Prelude.{ℕ, cond, List, [], ◌∷◌, eqb, ℤ, pos, negsuc, replicate, Ok, Err}
use Rattle.verdict.specs.declared.Verdict.{Verdict}
use Rattle.verdict.specs.Verdict.{accepted, refusal}
use Rattle.page.specs.Writing.{Writing}
use Rattle.book.specs.Answer as book
use Rattle.book.specs.declared.Cited.{Cited}
use Rattle.book.specs.declared.Values.{Values}
use Rattle.book.specs.declared.Values.TheVariants.{One, Two}
use Rattle.panel.specs.declared.Panel.{Panel}
use Rattle.panel.specs.declared.Panel.TheVariants.{Exact, Between}
use Rattle.building.specs.Year.{has_long_sheds}
use Rattle.pair.specs.declared.Pair.{Pair}
use Rattle.pair.specs.Total.{as_units}
use Rattle.job.specs.Carried.{most_faces}
use Rattle.job.specs.Walk.{Reading, Accepted, Refused}
use Rattle.worst.specs.declared.Extreme as worst
use Rattle.worst.specs.declared.Six.{Six}
use Rattle.worst.specs.Worst.{six_extremes}
use Rattle.answers.specs.declared.Text.{Text}
use Rattle.answers.specs.declared.Coefficient.{Coefficient}
use Rattle.answers.specs.declared.Extreme.{Extreme}
use Rattle.answers.specs.declared.Double.{Double}

-- ---- a text

abbrev pub no_host_text : Verdict → Text
no_host_text v = record { verdict = v; length = 0 }

abbrev pub host_text : Writing → Text
host_text (Ok n) = record { verdict = accepted; length = n }
host_text (Err v) = no_host_text v

-- ---- a coefficient

abbrev pub host_cited : Cited → ℕ → List ℤ → Coefficient
host_cited c count value =
    record {
      verdict = accepted;
      count = count;
      value = value;
      lower = c.lower;
      upper = c.upper;
      part = c.part;
      whole = c.whole;
    }

-- two values, or one and a zero
abbrev pub host_values : Cited → Values → Coefficient
host_values c (One v) = host_cited c 1 (v ∷ pos 0 ∷ [])
host_values c (Two v w) = host_cited c 2 (v ∷ w ∷ [])

abbrev pub host_coefficient : book.Answer → Coefficient
host_coefficient (Ok c) = host_values c c.values
host_coefficient (Err v) =
    record { verdict = v; count = 0; value = pos 0 ∷ pos 0 ∷ []; lower = 0; upper = 0; part = 0; whole = 0 }

-- ---- a double

abbrev pub host_double : Panel → Double
host_double (Exact x) = record { exact = 1; low = x; high = x }
host_double (Between low high) = record { exact = 0; low = low; high = high }

-- ---- a line of the report

abbrev pub no_host_extreme : Verdict → Extreme
no_host_extreme v =
    record {
      verdict = v;
      total = pos 0;
      newtons = pos 0;
      remainder = 0;
      wind = 0;
      internal = 0;
      faces = 0;
      alternative = replicate most_faces 0;
    }

-- the total in units, which from year 4 on is 0: there it is the newtons and the remainder alone
abbrev pub host_units : ℤ → Pair → ℤ
host_units year p = cond (has_long_sheds year) (pos 0) (as_units p)

abbrev pub host_extreme : ℤ → worst.Extreme → Extreme
host_extreme year e =
    record {
      verdict = accepted;
      total = host_units year e.total;
      newtons = e.total.newtons;
      remainder = e.total.remainder;
      wind = e.wind;
      internal = e.internal;
      faces = e.faces;
      alternative = e.alternative;
    }

-- x max, x min, y max, y min, z max, z min; no other line
unfoldable pub report_line : ℤ → Six → ℕ → Extreme
report_line year s n =
    cond (eqb n 1) (host_extreme year s.x.greatest)
    (cond (eqb n 2) (host_extreme year s.x.least)
    (cond (eqb n 3) (host_extreme year s.y.greatest)
    (cond (eqb n 4) (host_extreme year s.y.least)
    (cond (eqb n 5) (host_extreme year s.z.greatest)
    (cond (eqb n 6) (host_extreme year s.z.least)
    (no_host_extreme (refusal 3 0)))))))

abbrev pub host_line : ℤ → Six → ℤ → Extreme
host_line year s (pos n) = report_line year s n
host_line year s (negsuc n) = no_host_extreme (refusal 3 0)

-- the sheet's own refusal first
abbrev pub host_total : Reading → ℤ → Extreme
host_total (Accepted c) line = host_line c.year (six_extremes c) line
host_total (Refused v) line = no_host_extreme v
