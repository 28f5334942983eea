-- The resale round: quay would buy a week and sell one, and west would buy one.
use Rattle.std.specs.Prelude.{List, [], ◌∷◌, ◌++◌, codes}
use Rattle.cases.specs.Calls.{Answer, numbered, done, Call, item, member, hold, offer}
use Rattle.cases.specs.Chain.{line}

-- the calls that build it, with more calls of hold
abbrev pub resale : List Call → List Call
resale more =
    item (codes "week-a")
    ∷ member (codes "north") ∷ member (codes "quay") ∷ member (codes "west")
    ∷ hold 0 1 1 ∷ (more ++
    (offer 0 1 (line 1 1 100 ∷ []) (line 0 1 0 ∷ [])
    ∷ offer 1 1 (line 0 1 0 ∷ []) (line 1 1 150 ∷ [])
    ∷ offer 1 1 (line 1 1 120 ∷ []) (line 0 1 0 ∷ [])
    ∷ offer 2 1 (line 0 1 0 ∷ []) (line 1 1 200 ∷ []) ∷ []))

-- what they come back with
abbrev pub resale_answers : List Answer → List Answer
resale_answers more =
    numbered 1
    ∷ numbered 0 ∷ numbered 1 ∷ numbered 2
    ∷ done ∷ (more ++ (numbered 0 ∷ numbered 1 ∷ numbered 2 ∷ numbered 3 ∷ []))
