-- The chain round: the calls that build it, and the texts of its records.
use Rattle.std.specs.Prelude.{ℕ, List, [], ◌∷◌, ◌++◌, map, take, ℤ, pos, negsuc, codes}
use Rattle.book.specs.Allotments.{Allotment}
use Rattle.book.specs.declared.line.Line.{Line}
use Rattle.layout.specs.Render.{ended}
use Rattle.cases.specs.Calls.{Answer, numbered, done, Call, item, member, hold, offer}

-- a line of an offer: item, limit and price
abbrev pub line : ℕ → ℕ → ℕ → Line
line i limit price = record { item = i; limit = limit; price = price }

-- the calls, with more calls of hold, and with the price of the get line of offer 2
abbrev pub chain : List Call → ℕ → List Call
chain more last =
    item (codes "spring-a") ∷ item (codes "spring-b")
    ∷ member (codes "north") ∷ member (codes "quay") ∷ member (codes "west")
    ∷ hold 0 1 5 ∷ hold 1 2 4 ∷ (more ++
    (offer 0 5 (line 1 5 100 ∷ []) (line 0 5 0 ∷ [])
    ∷ offer 1 3 (line 2 4 150 ∷ []) (line 1 4 180 ∷ [])
    ∷ offer 2 10 (line 0 10 0 ∷ []) (line 2 10 last ∷ []) ∷ []))

-- what they come back with, with the answers of the calls that are more
abbrev pub chain_answers : List Answer → List Answer
chain_answers more =
    numbered 1 ∷ numbered 2
    ∷ numbered 0 ∷ numbered 1 ∷ numbered 2
    ∷ done ∷ done ∷ (more ++ (numbered 0 ∷ numbered 1 ∷ numbered 2 ∷ []))

-- the lines of a record with this kind, these holdings, these units on each line, this price of the get line of offer 2, and these levels
abbrev pub chain_lines : List (List ℕ) → List (List ℕ) → List ℕ → List ℕ → List (List ℕ) → List (List ℕ)
chain_lines kind holdings units last levels =
    kind
    ++ codes "I 3" ∷ codes "cash" ∷ codes "spring-a" ∷ codes "spring-b"
    ∷ codes "M 3" ∷ codes "north" ∷ codes "quay" ∷ codes "west"
    ∷ (holdings
    ++ codes "O 3"
    ∷ codes "0 5 1 1" ∷ (codes "1 5 100 " ++ units) ∷ (codes "0 5 0 " ++ units)
    ∷ codes "1 3 1 1" ∷ (codes "2 4 150 " ++ units) ∷ (codes "1 4 180 " ++ units)
    ∷ codes "2 10 1 1" ∷ (codes "0 10 0 " ++ units) ∷ (codes "2 10 " ++ (last ++ (codes " " ++ units)))
    ∷ levels)

-- by money, with the two holdings and price 160
abbrev pub money_lines : List ℕ → List (List ℕ) → List (List ℕ)
money_lines units levels = chain_lines (map codes ("K 1" ∷ "money" ∷ [])) (map codes ("H 2" ∷ "0 1 5" ∷ "1 2 4" ∷ [])) units (codes "160") levels

-- the text of those lines
abbrev pub money_text : List ℕ → List (List ℕ) → List ℕ
money_text units levels = ended (money_lines units levels)

-- its levels
abbrev pub chain_levels : List (List ℕ)
chain_levels = map codes ("L 11" ∷ "0" ∷ "100" ∷ "160" ∷ "100" ∷ "160" ∷ "0" ∷ "0" ∷ "10" ∷ "-80" ∷ "0" ∷ "0" ∷ [])

-- the same as integers, for file
abbrev pub filed_levels : List (List ℤ)
filed_levels = map (λ z. z ∷ []) (pos 0 ∷ pos 100 ∷ pos 160 ∷ pos 100 ∷ pos 160 ∷ pos 0 ∷ pos 0 ∷ pos 10 ∷ negsuc 79 ∷ pos 0 ∷ pos 0 ∷ [])

-- all of them 7 higher
abbrev pub raised_levels : List (List ℕ)
raised_levels = map codes ("L 11" ∷ "7" ∷ "107" ∷ "167" ∷ "107" ∷ "167" ∷ "7" ∷ "7" ∷ "17" ∷ "-73" ∷ "7" ∷ "7" ∷ [])

-- with -79 in the place of -80
abbrev pub levels_with_79 : List (List ℕ)
levels_with_79 = map codes ("L 11" ∷ "0" ∷ "100" ∷ "160" ∷ "100" ∷ "160" ∷ "0" ∷ "0" ∷ "10" ∷ "-79" ∷ "0" ∷ "0" ∷ [])

-- 3 units on each line
abbrev pub threes : Allotment
threes k = record { give = λ t. 3; get = λ t. 3 }

-- the record without its line 35, which is the last
abbrev pub cut_text : List ℕ
cut_text = ended (take 34 (money_lines (codes "3") chain_levels))

-- the sheet: no units, and no levels
abbrev pub chain_sheet : List ℕ
chain_sheet = money_text (codes "0") (codes "L 0" ∷ [])

-- by money, with so many units of cash held by member 2 too, and as many on each line; the levels are the same for each number
abbrev pub cash_lines : List ℕ → List (List ℕ)
cash_lines units = chain_lines (map codes ("K 1" ∷ "money" ∷ [])) (codes "H 3" ∷ codes "0 1 5" ∷ codes "1 2 4" ∷ (codes "2 0 " ++ units) ∷ []) units (codes "160") (map codes ("L 12" ∷ "0" ∷ "100" ∷ "70" ∷ "100" ∷ "70" ∷ "-90" ∷ "0" ∷ "0" ∷ "-80" ∷ "-80" ∷ "-90" ∷ "-90" ∷ []))

-- with 2 units
abbrev pub cash_text : List ℕ
cash_text = ended (cash_lines (codes "2"))

-- with a holding of 0 units, which is not the same as no holding
abbrev pub no_cash_text : List ℕ
no_cash_text = ended (cash_lines (codes "0"))

-- by money then weeks, with price 70
abbrev pub weeks_text : List ℕ
weeks_text = ended (chain_lines (map codes ("K 2" ∷ "money" ∷ "weeks" ∷ [])) (map codes ("H 2" ∷ "0 1 5" ∷ "1 2 4" ∷ [])) (codes "3") (codes "70") (map codes ("L 11" ∷ "0 0" ∷ "100 0" ∷ "70 1" ∷ "100 0" ∷ "70 1" ∷ "0 0" ∷ "0 0" ∷ "-80 1" ∷ "-80 -1" ∷ "0 0" ∷ "0 0" ∷ [])))

-- the sheet by money with price 70, at which no cycle is worth more than none
abbrev pub sheet_at_70 : List ℕ
sheet_at_70 = ended (chain_lines (map codes ("K 1" ∷ "money" ∷ [])) (map codes ("H 2" ∷ "0 1 5" ∷ "1 2 4" ∷ [])) (codes "0") (codes "70") (codes "L 0" ∷ []))
