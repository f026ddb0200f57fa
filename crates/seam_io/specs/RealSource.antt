-- A reader of std with the counts of what it answered.
use Rattle.std.specs.Prelude.{ℕ, refl}
use Rattle.std.specs.Coded.{Coded, code_by, coded×, coded_ℕ}

-- a reader, how often it has failed, and how often it has said that it is at its end
pub record CountedReader (R : Type 0) : Type 0 where
  pub inner : R
  pub faults : ℕ
  pub ends : ℕ

abbrev pub reader_code : {R : Type 0} → Coded R → Coded (CountedReader R)
reader_code {R} code =
    code_by (R × (ℕ × ℕ)) (coded× code (coded× coded_ℕ coded_ℕ)) (λ s. (s.inner, (s.faults, s.ends)))
    (λ p. record { inner = p.0; faults = p.1.0; ends = p.1.1 }) (λ _. refl)
