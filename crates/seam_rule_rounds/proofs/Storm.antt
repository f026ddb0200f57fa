-- The lines of the generated input: each call names its entity's one sender, and none asks for a tick or a balance.
use Rattle.std.proofs.Common.{◌≡◌, ◌≢◌, ◌+◌, ◌-◌, ◌/◌, ◌%◌, ◌^◌, ◌<◌, ◌≤◌, ℕ, zero, suc, Bool, true, false, cond, List, [], ◌∷◌, ◌++◌, refl}
use Rattle.std.proofs.Common.{sym}
use Rattle.std.proofs.Common.{ap, ◌∙◌, subst, arith, append_assoc, append-nil}
use Rattle.std.specs.Prelude.{All, codes, ◌==◌}
use Rattle.std.specs.List.{list_all, flat_map, range_with_len}
use Rattle.std.proofs.lemmas.Bool.Decides.{nat_tests}
use Rattle.std.proofs.lemmas.List.Elements.{All-nil}
use Rattle.seam_io.proofs.LineLemmas.{lines_of-none}
use Rattle.seam_value.specs.Values.{decimal_of}
use Rattle.seam_value.specs.Numerals.{is_digit}
use Rattle.seam_value.proofs.Decimals.{decimal_of_is, decimal_of_numeral}
use Rattle.seam_rule_rounds.specs.Prelude.{Sender, Base, text_of_storm, cuts, create_line, client_line, raster, entity, sender, move_line}
use Rattle.seam_rule_rounds.specs.Prelude.{call_line, is_move, draw, next_seed, drawn_line, seed_after, sync_after, lines_text, method_of}
use Rattle.seam_rule_rounds.specs.Prelude.{kind, Word, sender_text}
use Rattle.seam_storm.specs.Storm.{field}
use Rattle.seam_rule_rounds.proofs.Plain.{is_clear, IsClearWord, after_first, weaker}
use Rattle.seam_rule_rounds.proofs.Asking.{differs, IsFine, AreFine, fine_call, fine_other, line_before}

-- odd entities hear from base node 1, even ones from base node 2
abbrev pub sender_of : ℕ → Sender
sender_of e = cond (e % 2 == 1) (Base 1) (Base 2)

-- ---- words

digit_is_clear : (b : ℕ) → is_digit b ≡ true → is_clear b ≡ true
digit_is_clear b is = grind (arith, nat_tests, is)

number_is_clear : (n : ℕ) → IsClearWord (decimal_of n)
number_is_clear n =
    let numeral = decimal_of_numeral n in (numeral.some, weaker is_digit is_clear digit_is_clear (decimal_of n) numeral.all)

sender_is_clear : (e : ℕ) → IsClearWord (sender_text (sender_of e))
unfolding decimal_of
sender_is_clear e = by (e % 2 == 1)
  where
    by : (b : Bool) → IsClearWord (sender_text (cond b (Base 1) (Base 2)))
    by true = (omega arith, refl)
    by false = (omega arith, refl)

sender_spelled : (e : ℕ) → sender e ≡ 32 ∷ sender_text (sender_of e)
unfolding decimal_of
sender_spelled e = by (e % 2 == 1)
  where
    by : (b : Bool) → cond b (codes " b1") (codes " b2") ≡ 32 ∷ sender_text (cond b (Base 1) (Base 2))
    by true = refl
    by false = refl

field_spelled : (n : ℕ) → n < 10 ^ 64 → field n ≡ 32 ∷ decimal_of n
field_spelled n low = ap (λ (ds : List ℕ). 32 ∷ ds) (sym (decimal_of_is n low))

-- ---- the shapes of lines

with_one : (k a more : List ℕ) → (k ++ (32 ∷ a) ++ 10 ∷ []) ++ more ≡ (k ++ after_first (a ∷ [])) ++ 10 ∷ more
with_one k a more = simp (append_assoc, append-nil)

with_four : (k a b c d more : List ℕ) → (k ++ (32 ∷ a) ++ (32 ∷ b) ++ (32 ∷ c) ++ (32 ∷ d) ++ 10 ∷ []) ++ more
    ≡ (k ++ after_first (a ∷ b ∷ c ∷ d ∷ [])) ++ 10 ∷ more
with_four k a b c d more = simp (append_assoc, append-nil)

-- ---- lines that are no calls

abbrev Fine : List ℕ → Type 0
Fine text = AreFine sender_of text

create_before : (e : ℕ) (more : List ℕ) → e ≤ 64 → Fine more → Fine (create_line e ++ more)
create_before e more low rest =
    let x = raster ((e - 1) % 8) in
    let z = raster ((e - 1) / 8) in
    let e-is : field e ≡ 32 ∷ decimal_of e = field_spelled e (omega (arith, low)) in
    let x-is : field x ≡ 32 ∷ decimal_of x = field_spelled x (omega (arith, low)) in
    let z-is : field z ≡ 32 ∷ decimal_of z = field_spelled z (omega (arith, low)) in
    let text : create_line e ++ more
    ≡ (codes "create" ++ after_first (decimal_of e ∷ codes "Avatar" ∷ decimal_of x ∷ decimal_of z ∷ [])) ++ 10 ∷ more =
    (λ i. (codes "create" ++ e-is i ++ codes " Avatar" ++ x-is i ++ z-is i ++ 10 ∷ []) ++ more)
    ∙ with_four (codes "create") (decimal_of e) (codes "Avatar") (decimal_of x) (decimal_of z) more in
    subst Fine (sym text)
    (line_before sender_of (codes "create") (decimal_of e ∷ codes "Avatar" ∷ decimal_of x ∷ decimal_of z ∷ []) more (omega arith, refl)
    (number_is_clear e, ((omega arith, refl), (number_is_clear x, (number_is_clear z, tt)))) (omega arith)
    (λ has. fine_other sender_of _ (codes "create") _ has
    (differs 1 (codes "call") (codes "create") (λ at. omega (arith, at)))
    (differs 0 (codes "move") (codes "create") (λ at. omega (arith, at)))
    (differs 0 (codes "tick") (codes "create") (λ at. omega (arith, at)))
    (differs 0 (codes "balance") (codes "create") (λ at. omega (arith, at)))) rest)

client_before : (e : ℕ) (more : List ℕ) → e ≤ 64 → Fine more → Fine (client_line e ++ more)
client_before e more low rest =
    let e-is : field e ≡ 32 ∷ decimal_of e = field_spelled e (omega (arith, low)) in
    let text : client_line e ++ more ≡ (codes "client" ++ after_first (decimal_of e ∷ [])) ++ 10 ∷ more =
    (λ i. (codes "client" ++ e-is i ++ 10 ∷ []) ++ more) ∙ with_one (codes "client") (decimal_of e) more in
    subst Fine (sym text)
    (line_before sender_of (codes "client") (decimal_of e ∷ []) more (omega arith, refl) (number_is_clear e, tt) (omega arith)
    (λ has. fine_other sender_of _ (codes "client") _ has
    (differs 1 (codes "call") (codes "client") (λ at. omega (arith, at)))
    (differs 0 (codes "move") (codes "client") (λ at. omega (arith, at)))
    (differs 0 (codes "tick") (codes "client") (λ at. omega (arith, at)))
    (differs 0 (codes "balance") (codes "client") (λ at. omega (arith, at)))) rest)

cut_before : (cell axis : ℕ) (more : List ℕ) → is_clear cell ≡ true → is_clear axis ≡ true → Fine more →
    Fine ((codes "cut" ++ after_first ((cell ∷ []) ∷ (axis ∷ []) ∷ codes "5000" ∷ [])) ++ 10 ∷ more)
cut_before cell axis more cell-is axis-is rest =
    line_before sender_of (codes "cut") ((cell ∷ []) ∷ (axis ∷ []) ∷ codes "5000" ∷ []) more (omega arith, refl)
    ((omega arith, one cell cell-is), ((omega arith, one axis axis-is), ((omega arith, refl), tt))) (omega arith)
    (λ has. fine_other sender_of _ (codes "cut") _ has
    (differs 1 (codes "call") (codes "cut") (λ at. omega (arith, at)))
    (differs 0 (codes "move") (codes "cut") (λ at. omega (arith, at)))
    (differs 0 (codes "tick") (codes "cut") (λ at. omega (arith, at)))
    (differs 0 (codes "balance") (codes "cut") (λ at. omega (arith, at)))) rest
  where
    one : (b : ℕ) → is_clear b ≡ true → list_all is_clear (b ∷ []) ≡ true
    one b is = grind (arith, is)

single_before : (w : Word) (more : List ℕ) → IsClearWord w → codes "call" ≢ w → codes "move" ≢ w → codes "tick" ≢ w → codes "balance" ≢ w →
    Fine more → Fine ((w ++ after_first []) ++ 10 ∷ more)
single_before w more clear call move tick balance rest =
    line_before sender_of w [] more clear tt (omega arith)
    (λ has. fine_other sender_of _ w [] has call move tick balance) rest

sync_before : (k : ℕ) (more : List ℕ) → Fine more → Fine (sync_after k ++ more)
sync_before k more rest = by (k % 1000 == 0)
  where
    by : (b : Bool) → Fine (cond b (codes "sync\n") [] ++ more)
    by true =
        single_before (codes "sync") more (omega arith, refl)
        (differs 0 (codes "call") (codes "sync") (λ at. omega (arith, at)))
        (differs 0 (codes "move") (codes "sync") (λ at. omega (arith, at)))
        (differs 0 (codes "tick") (codes "sync") (λ at. omega (arith, at)))
        (differs 0 (codes "balance") (codes "sync") (λ at. omega (arith, at))) rest
    by false = rest

-- ---- calls

-- a call or a move: its command, its sender and its entity, and two words more
call_before : (k c d more : List ℕ) (e : ℕ) (E F : List ℕ) → IsClearWord k → IsClearWord c → IsClearWord d → e < 10 ^ 64 → E ≡ 32 ∷ c →
    F ≡ 32 ∷ d → Fine more → Fine ((k ++ sender e ++ field e ++ E ++ F ++ 10 ∷ []) ++ more)
call_before k c d more e E F k-clear c-clear d-clear low E-is F-is rest =
    let text : (k ++ sender e ++ field e ++ E ++ F ++ 10 ∷ []) ++ more
    ≡ (k ++ after_first (sender_text (sender_of e) ∷ decimal_of e ∷ c ∷ d ∷ [])) ++ 10 ∷ more =
    (λ i. (k ++ sender_spelled e i ++ field_spelled e low i ++ E-is i ++ F-is i ++ 10 ∷ []) ++ more)
    ∙ with_four k (sender_text (sender_of e)) (decimal_of e) c d more in
    subst Fine (sym text)
    (line_before sender_of k (sender_text (sender_of e) ∷ decimal_of e ∷ c ∷ d ∷ []) more k-clear
    (sender_is_clear e, (number_is_clear e, (c-clear, (d-clear, tt)))) (omega arith) (λ has. fine_call sender_of _ k e (c ∷ d ∷ []) has)
    rest)

move_before : (e f : ℕ) (more : List ℕ) → e < 10 ^ 64 → Fine more → Fine (move_line e f ++ more)
move_before e f more low rest =
    call_before (codes "move") (decimal_of (f % 10000)) (decimal_of (f / 10000 % 10000)) more e (field (f % 10000))
    (field (f / 10000 % 10000)) (omega arith, refl) (number_is_clear (f % 10000)) (number_is_clear (f / 10000 % 10000)) low
    (field_spelled (f % 10000) (omega arith)) (field_spelled (f / 10000 % 10000) (omega arith)) rest

hit_before : (e d amount : ℕ) (more : List ℕ) → e < 10 ^ 64 → amount < 10 ^ 64 → Fine more → Fine (call_line e (method_of d) amount ++ more)
hit_before e d amount more low small rest = by (kind d == 2)
  where
    by : (b : Bool) → Fine (call_line e (cond b (codes " hit") (codes " heal")) amount ++ more)
    by true =
        call_before (codes "call") (codes "hit") (decimal_of amount) more e (codes " hit") (field amount) (omega arith, refl) (
          omega arith,
          refl,
        )
        (number_is_clear amount) low refl (field_spelled amount small) rest
    by false =
        call_before (codes "call") (codes "heal") (decimal_of amount) more e (codes " heal") (field amount) (omega arith, refl)
        (omega arith, refl) (number_is_clear amount) low refl (field_spelled amount small) rest

drawn_before : (x : ℕ) (more : List ℕ) → Fine more → Fine (drawn_line x ++ more)
drawn_before x more rest = by (is_move (draw x))
  where
    by : (b : Bool) →
        Fine (cond b (move_line (entity (draw x)) (draw (next_seed x)))
        (call_line (entity (draw x)) (method_of (draw x)) (draw x / 256 % 100))
        ++ more)
    by true = move_before (entity (draw x)) (draw (next_seed x)) more (omega arith) rest
    by false = hit_before (entity (draw x)) (draw x) (draw x / 256 % 100) more (omega arith) (omega arith) rest

-- ---- the whole input

nothing_is_fine : Fine []
nothing_is_fine = subst (All (IsFine sender_of)) (sym lines_of-none) (All-nil (IsFine sender_of))

lines_are_fine : (left k x : ℕ) → Fine (lines_text left k x)
lines_are_fine zero k x = nothing_is_fine
lines_are_fine (suc left) k x =
    subst Fine (sym (append_assoc (drawn_line x) (sync_after k) (lines_text left (k + 1) (seed_after x))))
    (drawn_before x (sync_after k ++ lines_text left (k + 1) (seed_after x))
    (sync_before k (lines_text left (k + 1) (seed_after x)) (lines_are_fine left (k + 1) (seed_after x))))

-- lines of numbers up to 64
all_before : (f : ℕ → List ℕ) → ((e : ℕ) (more : List ℕ) → e ≤ 64 → Fine more → Fine (f e ++ more)) → (e count : ℕ) → e + count ≤ 65 →
    (more : List ℕ) → Fine more → Fine (flat_map f (range_with_len e count) ++ more)
all_before f before e zero low more rest = rest
all_before f before e (suc count) low more rest =
    subst Fine (sym (append_assoc (f e) (flat_map f (range_with_len (e + 1) count)) more))
    (before e (flat_map f (range_with_len (e + 1) count) ++ more) (omega (arith, low))
    (all_before f before (e + 1) count (omega (arith, low)) more rest))

cuts_before : (more : List ℕ) → Fine more → Fine (cuts ++ more)
cuts_before more rest =
    single_before (codes "%%")
    ((codes "cut" ++ after_first (codes "0" ∷ codes "x" ∷ codes "5000" ∷ []))
    ++ 10 ∷ ((codes "cut" ++ after_first (codes "0" ∷ codes "z" ∷ codes "5000" ∷ []))
    ++ 10 ∷ ((codes "cut" ++ after_first (codes "1" ∷ codes "z" ∷ codes "5000" ∷ [])) ++ 10 ∷ more)))
    (omega arith, refl)
    (differs 0 (codes "call") (codes "%%") (λ at. omega (arith, at)))
    (differs 0 (codes "move") (codes "%%") (λ at. omega (arith, at)))
    (differs 0 (codes "tick") (codes "%%") (λ at. omega (arith, at)))
    (differs 0 (codes "balance") (codes "%%") (λ at. omega (arith, at)))
    (cut_before 48 120 _ refl refl (cut_before 48 122 _ refl refl (cut_before 49 122 more refl refl rest)))

pub storm_is_fine : (n : ℕ) → AreFine sender_of (text_of_storm n)
storm_is_fine n =
    let creates = flat_map create_line (range_with_len 1 64) in
    let clients = flat_map client_line (range_with_len 1 8) in
    let lines = lines_text n 1 n in
    let parts : text_of_storm n ≡ cuts ++ (creates ++ (clients ++ lines)) =
    append_assoc (cuts ++ creates) clients lines ∙ append_assoc cuts creates (clients ++ lines) in
    subst Fine (sym parts)
    (cuts_before (creates ++ (clients ++ lines))
    (all_before create_line create_before 1 64 (omega arith) (clients ++ lines)
    (all_before client_line client_before 1 8 (omega arith) lines (lines_are_fine n 1 n))))
