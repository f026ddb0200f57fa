-- What a cell knows of ghosts: for each entity the greatest beat that it saw and, perhaps, a copy.
use Rattle.std.specs.Prelude.{ℕ, nat_lt, List, [], ◌∷◌, Option, None, Some, is_some, if◌then◌else◌}
use Rattle.std.specs.Ordering.{nat_cmp}
use Rattle.std.specs.FinMap as map
use Rattle.std.specs.Coded.{Coded, code_by, coded×, coded_ℕ, coded_option}
use Rattle.std.proofs.Common.{refl}
use Rattle.seam_ghosts.specs.declared.Ghost.{Ghost}
use Rattle.seam_ghosts.specs.declared.Kept.{Kept}
use Rattle.seam_ghosts.specs.declared.Kept.TheVariants.{Taken, Ignored}

-- the ghost of each entity that a message came for
pub record BookView (P : Type 0) : Type 0 where
  pub ghosts : map.FinMap nat_cmp (Ghost P)

abbrev pub ghost_code : {P : Type 0} → Coded P → Coded (Ghost P)
ghost_code p =
    code_by (ℕ × Option _) (coded× coded_ℕ (coded_option p)) (λ g. (g.beat, g.copy)) (λ q. record { beat = q.0; copy = q.1 }) (λ _. refl)

abbrev pub book_code : {P : Type 0} → Coded P → Coded (BookView P)
book_code p =
    code_by (map.FinMap nat_cmp (Ghost _)) (map.code coded_ℕ (ghost_code p)) (λ w. w.ghosts) (λ m. record { ghosts = m }) (λ _. refl)

abbrev pub beat_in : {P : Type 0} → Option (Ghost P) → ℕ
beat_in None = 0
beat_in (Some g) = g.beat

-- the greatest beat seen for the entity, or 0
abbrev pub beat_of : {P : Type 0} → BookView P → ℕ → ℕ
beat_of w e = beat_in (map.get w.ghosts e)

abbrev pub copy_in : {P : Type 0} → Option (Ghost P) → Option P
copy_in None = None
copy_in (Some g) = g.copy

-- the entity's copy, if there is one
abbrev pub copy_of : {P : Type 0} → BookView P → ℕ → Option P
copy_of w e = copy_in (map.get w.ghosts e)

abbrev pub with_copy : {P : Type 0} → ℕ → Option P → List (ℕ × P) → List (ℕ × P)
with_copy e None rest = rest
with_copy e (Some p) rest = (e, p) ∷ rest

abbrev pub copied : {P : Type 0} → List (ℕ × Ghost P) → List (ℕ × P)
copied [] = []
copied (g ∷ gs) = with_copy g.0 g.1.copy (copied gs)

-- the entities that have copies, each with its copy, in rising number
abbrev pub copies : {P : Type 0} → BookView P → List (ℕ × P)
copies w = copied (map.entries w.ghosts)

-- of the ghosts those that have a copy
unfoldable pub with_copies : {P : Type 0} → map.FinMap nat_cmp (Ghost P) → map.FinMap nat_cmp (Ghost P)
with_copies m = map.retain_keys m (λ e. is_some (copy_in (map.get m e)))

-- what a message of this beat meets, where the other one is known
abbrev pub answer : ℕ → ℕ → Kept
answer known beat = if nat_lt known beat then Taken else Ignored

-- the book with this ghost in place of what was known of the entity
abbrev pub with_ghost : {P : Type 0} → BookView P → ℕ → Ghost P → BookView P
with_ghost w e g = record { ghosts = map.insert w.ghosts e g }

-- after a message with a ghost of the entity: it is known from now on where its beat is greater, and else nothing changed
abbrev pub after_message : {P : Type 0} → BookView P → ℕ → Ghost P → BookView P
after_message w e g = if nat_lt (beat_of w e) g.beat then with_ghost w e g else w

-- what is known of an entity after a message with a ghost of it: the ghost of the greater beat, and of equal ones the former
abbrev pub ghost_after : {P : Type 0} → Option (Ghost P) → Ghost P → Option (Ghost P)
ghost_after known g = if nat_lt (beat_in known) g.beat then Some g else known
