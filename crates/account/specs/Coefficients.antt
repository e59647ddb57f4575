-- The coefficients of a face that takes part, as the code finds them. Only contracts of private functions cite it.
use Rattle.std.specs.Prelude.{ℕ, ◌-◌, ℤ, pos, get_or}
use Rattle.book.specs.Answer.{Answer, values_of}
use Rattle.book.specs.Question.{net}
use Rattle.account.specs.declared.coefficients.FaceCoefficients.{FaceCoefficients}
use Rattle.account.specs.Account.{cited_rows, no_rows}

-- of an answer, its alternative k
abbrev pub outside_in : Answer → ℕ → ℤ
outside_in a k = get_or (values_of a) (k - 1) (pos 0)

abbrev pub face_coefficients : Answer → ℕ → ℤ → FaceCoefficients
face_coefficients a k internal =
    record { rows = cited_rows a; outside = outside_in a k; net = net (outside_in a k) internal }

abbrev pub no_coefficients : FaceCoefficients
no_coefficients = record { rows = no_rows; outside = pos 0; net = pos 0 }
