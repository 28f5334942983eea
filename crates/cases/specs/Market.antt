-- The example market: the calls that build it, and the text of its record with the known best allotment.
use Rattle.std.specs.Prelude.{ℕ, List, [], ◌∷◌, map, codes}
use Rattle.layout.specs.Render.{ended}
use Rattle.cases.specs.Calls.{Answer, numbered, done, Call, item, member, hold, offer}
use Rattle.cases.specs.Chain.{line}

-- four members, who hold and would trade four sorts of weeks
abbrev pub market : List Call
market =
    item (codes "week-a") ∷ item (codes "week-b") ∷ item (codes "week-c") ∷ item (codes "week-d")
    ∷ member (codes "harbour-1") ∷ member (codes "harbour-2") ∷ member (codes "harbour-3") ∷ member (codes "harbour-4")
    ∷ hold 0 1 50 ∷ hold 0 2 30 ∷ hold 1 3 40 ∷ hold 1 4 20 ∷ hold 2 4 20
    ∷ offer 0 80 (line 1 50 100 ∷ line 2 30 200 ∷ []) (line 4 40 50 ∷ line 0 40 0 ∷ [])
    ∷ offer 0 40 (line 2 30 200 ∷ line 0 20 0 ∷ []) (line 3 40 250 ∷ [])
    ∷ offer 1 40 (line 3 30 260 ∷ line 4 20 60 ∷ []) (line 1 30 120 ∷ line 2 30 190 ∷ [])
    ∷ offer 1 20 (line 3 20 240 ∷ []) (line 0 20 0 ∷ [])
    ∷ offer 2 20 (line 4 20 60 ∷ []) (line 1 20 120 ∷ [])
    ∷ offer 3 40 (line 0 40 0 ∷ []) (line 2 30 210 ∷ line 4 20 80 ∷ []) ∷ []

-- what the calls come back with
abbrev pub market_answers : List Answer
market_answers =
    numbered 1 ∷ numbered 2 ∷ numbered 3 ∷ numbered 4
    ∷ numbered 0 ∷ numbered 1 ∷ numbered 2 ∷ numbered 3
    ∷ done ∷ done ∷ done ∷ done ∷ done
    ∷ numbered 0 ∷ numbered 1 ∷ numbered 2 ∷ numbered 3 ∷ numbered 4 ∷ numbered 5 ∷ []

-- the text of its record
abbrev pub market_text : List ℕ
market_text = ended (map codes (
    "K 1" ∷ "money"
    ∷ "I 5" ∷ "cash" ∷ "week-a" ∷ "week-b" ∷ "week-c" ∷ "week-d"
    ∷ "M 4" ∷ "harbour-1" ∷ "harbour-2" ∷ "harbour-3" ∷ "harbour-4"
    ∷ "H 5" ∷ "0 1 50" ∷ "0 2 30" ∷ "1 3 40" ∷ "1 4 20" ∷ "2 4 20"
    ∷ "O 6"
    ∷ "0 80 2 2" ∷ "1 50 100 50" ∷ "2 30 200 0" ∷ "4 40 50 20" ∷ "0 40 0 30"
    ∷ "0 40 2 1" ∷ "2 30 200 20" ∷ "0 20 0 10" ∷ "3 40 250 30"
    ∷ "1 40 2 2" ∷ "3 30 260 10" ∷ "4 20 60 20" ∷ "1 30 120 30" ∷ "2 30 190 0"
    ∷ "1 20 1 1" ∷ "3 20 240 20" ∷ "0 20 0 20"
    ∷ "2 20 1 1" ∷ "4 20 60 20" ∷ "1 20 120 20"
    ∷ "3 40 1 2" ∷ "0 40 0 40" ∷ "2 30 210 20" ∷ "4 20 80 20"
    ∷ "L 22" ∷ "0" ∷ "100" ∷ "200" ∷ "250" ∷ "50" ∷ "100" ∷ "200" ∷ "250" ∷ "50" ∷ "50" ∷ "0" ∷ "0" ∷ "0" ∷ "0" ∷ "-10" ∷ "-10" ∷ "0" ∷ "0" ∷ "-10" ∷ "-10" ∷ "-10" ∷ "-10" ∷ []))
