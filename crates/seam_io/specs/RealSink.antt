-- A writer of std with the count of its faults.
use Rattle.std.specs.Prelude.{ℕ, refl}
use Rattle.std.specs.Coded.{Coded, code_by, coded×, coded_ℕ}

-- a writer, and how often it has failed
pub record CountedWriter (W : Type 0) : Type 0 where
  pub inner : W
  pub faults : ℕ

abbrev pub writer_code : {W : Type 0} → Coded W → Coded (CountedWriter W)
writer_code {W} code =
    code_by (W × ℕ) (coded× code coded_ℕ) (λ s. (s.inner, s.faults)) (λ p. record { inner = p.0; faults = p.1 }) (λ _. refl)
