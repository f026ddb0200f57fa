use Rattle.seam_law_flow.proofs.SendLists.{sees_one, sees_after_silent, items_to-spread, spread_past, chosen_at}
use Rattle.seam_law_flow.proofs.laws.sends_are_seen.Goals as goal

pub returns-clause-one : goal.returns-clause-one
returns-clause-one g c = λ mine to j m. sees_one mine to j m

pub returns-clause-others : goal.returns-clause-others
returns-clause-others g c = λ mine j ps qs h. sees_after_silent mine j ps qs h

pub returns-clause-spread : goal.returns-clause-spread
returns-clause-spread g c = λ f n j h. items_to-spread n j f h

pub returns-clause-spread_past : goal.returns-clause-spread_past
returns-clause-spread_past g c = λ f n j h. spread_past n j f h

pub returns-clause-chosen : goal.returns-clause-chosen
returns-clause-chosen g c = λ f a n j own h lt. chosen_at f a n j own h lt
