-- How far positions lie apart.
use Rattle.std.specs.Prelude.{ℕ, ◌+◌, ◌-◌, max}
use Rattle.seam_geo.specs.declared.pos.Pos.{Pos}

-- the difference of two places on one axis
abbrev pub gap : ℕ → ℕ → ℕ
gap a b = (a - b) + (b - a)

-- the distance of two positions is the greater of their differences
abbrev pub distance : Pos → Pos → ℕ
distance a b = max (gap a.x b.x) (gap a.z b.z)
