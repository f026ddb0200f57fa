-- The numbers of a world after a round, by the entries and rounds before it.
use Rattle.seam_law_transcript.proofs.Prelude.{◌≡◌, ℕ, ◌+◌, ◌*◌, ◌≤◌, length, arith, length-append, mul-le-mul_left, World, Header}
use Rattle.seam_law_transcript.proofs.Prelude.{Standing, entries, sent_by, numbers_of, AreAtMost, most_lines_of_look, batch_of, ordered}
use Rattle.seam_law_transcript.proofs.Prelude.{mapped_few}

-- a product of lesser numbers is less
product : (a c m k : ℕ) → a ≤ c → m ≤ k → a * m ≤ c * k
product a c m k first second =
    let x = mul-le-mul_left m first in
    let y = mul-le-mul_left c second in
    omega (arith, x, y)

module _ (h : Header) (s : Standing) where
  abbrev orders : ℕ
  orders = length (batch_of h s.book).orders

  few_orders : orders ≤ length s.book.current
  few_orders = mapped_few (ordered h) s.book.current

  both : length (entries s.book) ≡ length s.book.past + length s.book.current
  both = length-append s.book.past s.book.current

  pub reals_after : (v : World) → AreAtMost numbers_of (3 * length s.book.past + 2 * s.rounds + (3 * orders + 2)) v →
      AreAtMost numbers_of (3 * length (entries s.book) + 2 * (s.rounds + 1)) v
  reals_after v low e k r at =
      let its = low e k r at in
      let few = few_orders in
      let all = both in
      omega (arith, its, few, all)

  pub told_after : (v : World) (lines : ℕ) → lines ≤ most_lines_of_look →
      AreAtMost sent_by (most_lines_of_look * (16 * length s.book.past + s.rounds) + lines * (16 * orders + 1)) v →
      AreAtMost sent_by (most_lines_of_look * (16 * length (entries s.book) + (s.rounds + 1))) v
  told_after v lines le low e k r at =
      let its = low e k r at in
      let few = few_orders in
      let all = both in
      let few_looks : 16 * orders + 1 ≤ 16 * length s.book.current + 1 = omega (arith, few) in
      let more = product lines most_lines_of_look (16 * orders + 1) (16 * length s.book.current + 1) le few_looks in
      omega (arith, its, more, all)
