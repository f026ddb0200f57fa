-- Lists of clients' lines with as many lines to each client have as many lines.
use Rattle.std.proofs.Common.{◌≡◌, ◌+◌, ◌≤◌, ℕ, suc, Bool, true, false, cond, List, [], ◌∷◌, length, refl, sym, ◌∙◌, ap, arith}
use Rattle.std.specs.Prelude.{◌==◌, filter}
use Rattle.std.proofs.lemmas.Bool.{eqb-true}
use Rattle.seam_rule_rounds.specs.Lines.{ClientLine}

one_if : Bool → ℕ
one_if true = 1
one_if false = 0

-- how many lines are to an entity's client
many : ℕ → List ClientLine → ℕ
many e [] = 0
many e (l ∷ ls) = one_if (l.entity == e) + many e ls

-- the list with one line to this client taken out
abbrev TakesOut : ClientLine → List ClientLine → List ClientLine → Type 0
TakesOut l ls rest = (length ls ≡ suc (length rest)) × ((e : ℕ) → many e ls ≡ one_if (l.entity == e) + many e rest)

taken_out : (l : ClientLine) (ls : List ClientLine) → 1 ≤ many l.entity ls → (rest : List ClientLine) × TakesOut l ls rest
unfolding many one_if
taken_out l [] some = absurd (omega (arith, some))
taken_out l (x ∷ ls) some = by (x.entity == l.entity) refl some (λ has. taken_out l ls has)
  where
    by : (b : Bool) → (x.entity == l.entity) ≡ b → 1 ≤ one_if b + many l.entity ls →
        (1 ≤ many l.entity ls → (rest : List ClientLine) × TakesOut l ls rest) →
        (rest : List ClientLine) × TakesOut l (x ∷ ls) rest
    by true is has among =
        let same : x.entity ≡ l.entity = eqb-true x.entity l.entity is in
        (ls, (refl, λ e. ap (λ (n : ℕ). one_if (n == e) + many e ls) same))
    by false is has among =
        let (rest, (long, all)) = among (omega (arith, has)) in
        (x ∷ rest, (ap suc long, λ e. ap (λ (n : ℕ). one_if (x.entity == e) + n) (all e) ∙ omega arith))

one_to_itself : (l : ClientLine) (ls : List ClientLine) → 1 ≤ many l.entity (l ∷ ls)
unfolding many one_if
one_to_itself l ls = by (l.entity == l.entity) (grind arith)
  where
    by : (b : Bool) → b ≡ true → 1 ≤ one_if b + many l.entity ls
    by true is = omega arith
    by false is = cc

as_long : (xs ys : List ClientLine) → ((e : ℕ) → many e xs ≡ many e ys) → length xs ≡ length ys
unfolding many
as_long [] [] same = refl
as_long [] (y ∷ ys) same = let none = same y.entity in let some = one_to_itself y ys in absurd (omega (arith, none, some))
as_long (x ∷ xs) ys same =
    let (rest, (long, all)) = taken_out x ys (let is = same x.entity in let some = one_to_itself x xs in omega (arith, is, some)) in
    ap suc (as_long xs rest (λ e. let one = same e in let other = all e in omega (arith, one, other))) ∙ sym long

many_is : (e : ℕ) (ls : List ClientLine) → length (filter (λ (l : ClientLine). l.entity == e) ls) ≡ many e ls
unfolding many one_if
many_is e [] = refl
many_is e (l ∷ ls) = by (l.entity == e) (many_is e ls)
  where
    by : (b : Bool) → length (filter (λ (x : ClientLine). x.entity == e) ls) ≡ many e ls →
        length (cond b (l ∷ filter (λ (x : ClientLine). x.entity == e) ls) (filter (λ (x : ClientLine). x.entity == e) ls))
        ≡ one_if b + many e ls
    by true others = ap suc others ∙ omega arith
    by false others = others ∙ omega arith

pub same_length : (xs ys : List ClientLine) →
    ((e : ℕ) → length (filter (λ (l : ClientLine). l.entity == e) xs) ≡ length (filter (λ (l : ClientLine). l.entity == e) ys)) →
    length xs ≡ length ys
same_length xs ys same = as_long xs ys (λ e. sym (many_is e xs) ∙ same e ∙ many_is e ys)
