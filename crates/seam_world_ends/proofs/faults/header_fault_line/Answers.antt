use Rattle.std.proofs.Common.{◌≡◌, ◌<◌, ◌^◌, ◌++◌, [], ◌∷◌, List, ℕ, refl, sym, ap, ◌∙◌, arith, subst, lit<}
use Rattle.std.specs.Prelude.{codes}
use Rattle.std.specs.Fmt.{digits, decimal}
use Rattle.seam_value.proofs.NumberWords.{decimal_is}
use Rattle.seam_world_ends.specs.Ends.{fault_line}
use Rattle.seam_world_ends.specs.declared.status.Status.TheVariants as status
use Rattle.seam_world_ends.proofs.faults.header_fault_line.Goals as goal

-- the line of a cause whose number has this spelling
line_of : (k : ℕ) (spelled : List ℕ) → k < 2 ^ 64 → decimal k ≡ spelled →
    codes "fault header " ++ spelled ++ 10 ∷ [] ≡ fault_line (status.BadHeader k)
line_of k spelled small is = sym (ap (λ (xs : List ℕ). codes "fault header " ++ xs ++ 10 ∷ []) (decimal_is k small ∙ is))

spelled_1 : decimal 1 ≡ 49 ∷ []
unfolding digits
spelled_1 = refl

spelled_2 : decimal 2 ≡ 50 ∷ []
unfolding digits
spelled_2 = refl

spelled_3 : decimal 3 ≡ 51 ∷ []
unfolding digits
spelled_3 = refl

spelled_4 : decimal 4 ≡ 52 ∷ []
unfolding digits
spelled_4 = refl

spelled_5 : decimal 5 ≡ 53 ∷ []
unfolding digits
spelled_5 = refl

spelled_6 : decimal 6 ≡ 54 ∷ []
unfolding digits
spelled_6 = refl

spelled_7 : decimal 7 ≡ 55 ∷ []
unfolding digits
spelled_7 = refl

spelled_8 : decimal 8 ≡ 56 ∷ []
unfolding digits
spelled_8 = refl

spelled_9 : decimal 9 ≡ 57 ∷ []
unfolding digits
spelled_9 = refl

spelled_10 : decimal 10 ≡ 49 ∷ 48 ∷ []
unfolding digits
spelled_10 = refl

pub returns-in-1 : goal.returns-in-1
returns-in-1 c =
    subst (λ (n : ℕ). codes "fault header 1\n" ≡ fault_line (status.BadHeader n)) (sym c.in-1.is)
    (line_of 1 (49 ∷ []) (lit< tt) spelled_1)

pub returns-in-2 : goal.returns-in-2
returns-in-2 c =
    subst (λ (n : ℕ). codes "fault header 2\n" ≡ fault_line (status.BadHeader n)) (sym c.in-2.is)
    (line_of 2 (50 ∷ []) (lit< tt) spelled_2)

pub returns-in-3 : goal.returns-in-3
returns-in-3 c =
    subst (λ (n : ℕ). codes "fault header 3\n" ≡ fault_line (status.BadHeader n)) (sym c.in-3.is)
    (line_of 3 (51 ∷ []) (lit< tt) spelled_3)

pub returns-in-4 : goal.returns-in-4
returns-in-4 c =
    subst (λ (n : ℕ). codes "fault header 4\n" ≡ fault_line (status.BadHeader n)) (sym c.in-4.is)
    (line_of 4 (52 ∷ []) (lit< tt) spelled_4)

pub returns-in-5 : goal.returns-in-5
returns-in-5 c =
    subst (λ (n : ℕ). codes "fault header 5\n" ≡ fault_line (status.BadHeader n)) (sym c.in-5.is)
    (line_of 5 (53 ∷ []) (lit< tt) spelled_5)

pub returns-in-6 : goal.returns-in-6
returns-in-6 c =
    subst (λ (n : ℕ). codes "fault header 6\n" ≡ fault_line (status.BadHeader n)) (sym c.in-6.is)
    (line_of 6 (54 ∷ []) (lit< tt) spelled_6)

pub returns-in-7 : goal.returns-in-7
returns-in-7 c =
    subst (λ (n : ℕ). codes "fault header 7\n" ≡ fault_line (status.BadHeader n)) (sym c.in-7.is)
    (line_of 7 (55 ∷ []) (lit< tt) spelled_7)

pub returns-in-8 : goal.returns-in-8
returns-in-8 c =
    subst (λ (n : ℕ). codes "fault header 8\n" ≡ fault_line (status.BadHeader n)) (sym c.in-8.is)
    (line_of 8 (56 ∷ []) (lit< tt) spelled_8)

pub returns-in-9 : goal.returns-in-9
returns-in-9 c =
    subst (λ (n : ℕ). codes "fault header 9\n" ≡ fault_line (status.BadHeader n)) (sym c.in-9.is)
    (line_of 9 (57 ∷ []) (lit< tt) spelled_9)

pub returns-in_default : goal.returns-in_default
returns-in_default c =
    let low = c.requires.0 in
    let high = c.requires.1 in
    let others = c.in_default in
    let is : 10 ≡ c.args.cause = omega (arith, low, high, others) in
    subst (λ (n : ℕ). codes "fault header 10\n" ≡ fault_line (status.BadHeader n)) is (line_of 10 (49 ∷ 48 ∷ []) (lit< tt) spelled_10)
