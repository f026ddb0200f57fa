-- A part executed no more calls than were accepted.
use Rattle.seam_law_transcript.proofs.Prelude.{◌≡◌, ℕ, suc, ◌+◌, ◌≤◌, Bool, true, false, cond, List, [], ◌∷◌, length, refl, ap, ◌∙◌, arith}
use Rattle.seam_law_transcript.proofs.Prelude.{filter, ◌&&◌, Part, is_for, is_from, same_sender, Call, Sender, of_sender, IsFull}
use Rattle.seam_call.specs.declared.sender.Sender.TheVariants as sender

same_is : (s t : Sender) → same_sender s t ≡ true → s ≡ t
same_is (sender.Base m) (sender.Base n) same = ap sender.Base (grind (arith, same))
same_is (sender.Client d) (sender.Client e) same = ap sender.Client (grind (arith, same))
same_is (sender.Base m) (sender.Client e) same = cc
same_is (sender.Client d) (sender.Base n) same = cc

of_itself : (s : Sender) → same_sender s s ≡ true
of_itself (sender.Base n) = grind arith
of_itself (sender.Client e) = grind arith

abbrev one_if : Bool → ℕ
one_if b = cond {A = ℕ} b 1 0

-- how many pass a test, where one is taken out
counted : {X : Type 0} (q : X → Bool) (x : X) (xs : List X) → length (filter q (x ∷ xs)) ≡ one_if (q x) + length (filter q xs)
counted q x xs = by (q x)
  where
    by : (b : Bool) → length (cond b (x ∷ filter q xs) (filter q xs)) ≡ one_if b + length (filter q xs)
    by true = omega arith
    by false = omega arith

-- one that passes the test is taken out of a list
record Taken {X : Type 0} (q : X → Bool) (xs : List X) : Type 0 where
  one : X
  rest : List X
  passes : q one ≡ true
  less : length xs ≡ suc (length rest)
  counts : (p : X → Bool) → length (filter p xs) ≡ one_if (p one) + length (filter p rest)

take_one : {X : Type 0} (q : X → Bool) (xs : List X) → 1 ≤ length (filter q xs) → Taken q xs
take_one q [] some = absurd (omega (arith, some))
take_one {X} q (x ∷ xs) some = by (q x) refl (take_one q xs)
  where
    by : (b : Bool) → q x ≡ b → (1 ≤ length (filter q xs) → Taken q xs) → Taken q (x ∷ xs)
    by true is more = record { one = x; rest = xs; passes = is; less = refl; counts = λ p. counted p x xs }
    by false is more =
        let here = counted q x xs in
        let none = ap one_if is in
        let later = more (omega (arith, some, here, none)) in
        let less = later.less in
        record {
          one = later.one;
          rest = x ∷ later.rest;
          passes = later.passes;
          less = omega (arith, less);
          counts = λ p.
              let a = counted p x xs in
              let b = later.counts p in
              let c = counted p x later.rest in
              omega (arith, a, b, c);
        }

right : (a b : Bool) → (a && b) ≡ true → b ≡ true
right true b h = h
right false b h = absurd (let z = h in cc)

left : (a b : Bool) → (a && b) ≡ true → a ≡ true
left true b h = refl
left false b h = absurd (let z = h in cc)

module _ (p : Part) (e : ℕ) where
  -- an order of calls of which each sender has no more than it has among those accepted is no longer than all of these
  few : (order accepted : List Call) →
      ((s : Sender) → length (of_sender s order) ≤ length (filter (is_from p e s) accepted)) → length order ≤ length accepted
  few [] accepted each = omega arith
  few (c ∷ order) accepted each =
      let s0 = c.sender in
      let mine = counted (λ (x : Call). same_sender x.sender s0) c order in
      let its = ap one_if (of_itself s0) in
      let most = each s0 in
      let taken = take_one (is_from p e s0) accepted (omega (arith, mine, its, most)) in
      let from : taken.one.sender ≡ s0 =
      same_is taken.one.sender s0 (right (is_for p e taken.one) (same_sender taken.one.sender s0) taken.passes) in
      let for : is_for p e taken.one ≡ true = left (is_for p e taken.one) (same_sender taken.one.sender s0) taken.passes in
      let less = taken.less in
      let rest = few order taken.rest (λ s.
      let a = counted (λ (x : Call). same_sender x.sender s) c order in
      let b = taken.counts (is_from p e s) in
      let same : one_if (is_from p e s taken.one) ≡ one_if (same_sender s0 s) =
      ap (λ d. one_if (d && same_sender taken.one.sender s)) for ∙ ap (λ t. one_if (same_sender t s)) from in
      let m = each s in
      omega (arith, a, b, same, m)) in
      omega (arith, less, rest)

  pub no_more : (order accepted : List Call) → IsFull (λ s. filter (is_from p e s) accepted) order → length order ≤ length accepted
  no_more order accepted full = few order accepted (λ s. let is = ap length (full s) in omega (arith, is))
