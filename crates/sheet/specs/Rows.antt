-- "for every accepted request it prints file, unit, frame of acceptance, frame of the answer or 0, and the reports its channel accepted since, the
-- answering one included" (document 02, M-113): requests followed from event to event. Assumes nothing.
use Rattle.std.specs.Prelude.{ℕ, ◌+◌, ◌-◌, ◌^◌, Bool, true, false, not, cond, ◌&&◌, ◌||◌, List, [], ◌∷◌, map, eqb, leb, ltb, length, take, set, replicate}
use Rattle.sheet.specs.declared.Event.{Event}
use Rattle.sheet.specs.declared.Row.{Row}
use Rattle.sheet.specs.declared.Listed.{Listed}

-- "At most 512 are listed"
abbrev pub most_listed : ℕ
most_listed = 512

-- one more: numbers stop at the most that 64 bits hold, which no session reaches
abbrev pub most_count : ℕ
most_count = 18446744073709551615

unfoldable pub next : ℕ → ℕ
next n = cond (ltb n most_count) (n + 1) n

-- ---- one request

-- as it is accepted by the event e of frame k
abbrev pub new_row : Event → ℕ → Row
new_row e k =
    record { file = e.file; channel = e.channel; unit = e.unit; asked = k; answered = 0; reports = 0; live = true }

-- the event is a report that its channel accepted, and the one that answers it
abbrev pub is_counted : Event → Row → Bool
is_counted e row = (row.live && e.reported) && eqb row.channel e.channel

abbrev pub is_answered : Event → Row → Bool
is_answered e row = (is_counted e row && eqb row.unit e.unit) && e.answered

-- after the event e of frame k: "one dropped by a fresh start .. counts up to there"
unfoldable pub row_after : Event → ℕ → Row → Row
row_after e k row =
    record {
      file = row.file;
      channel = row.channel;
      unit = row.unit;
      asked = row.asked;
      answered = cond (is_answered e row) k row.answered;
      reports = cond (is_counted e row) (next row.reports) row.reports;
      live = (row.live && not (is_answered e row)) && not e.started;
    }

-- after the events of the frames from k on
unfoldable pub row_through : ℕ → Row → List Event → Row
row_through k row [] = row
row_through k row (e ∷ es) = row_through (next k) (row_after e k row) es

-- ---- all requests of the events of the frames from k on, "in order of acceptance", each as it is after the last event

abbrev pub onto : Bool → Row → List Row → List Row
onto b row rows = cond b (row ∷ rows) rows

unfoldable pub requests : ℕ → List Event → List Row
requests k [] = []
requests k (e ∷ es) = onto e.asked (row_through (next k) (new_row e k) es) (requests (next k) es)

-- ---- the same event by event, with room for 512

abbrev pub no_row : Row
no_row = record { file = 0; channel = 0; unit = 0; asked = 0; answered = 0; reports = 0; live = false }

abbrev pub listed_with : List Row → ℕ → Bool → Listed
listed_with rows count more = record { rows = rows; count = count; more = more }

unfoldable pub none_listed : Listed
none_listed = listed_with (replicate most_listed no_row) 0 false

unfoldable pub row_in : List Row → ℕ → Row → List Row
row_in rows i row = cond (leb most_listed i) rows (set rows i row)

unfoldable pub listed_after : Event → ℕ → Listed → Listed
listed_after e k l =
    let rows = map (row_after e k) l.rows in
    cond (not e.asked) (listed_with rows l.count l.more)
    (cond (leb most_listed l.count) (listed_with rows l.count true) (listed_with (row_in rows l.count (new_row e k)) (l.count + 1) l.more))

-- the events of the frames from k on
unfoldable pub listed_through : ℕ → Listed → List Event → Listed
listed_through k l [] = l
listed_through k l (e ∷ es) = listed_through (next k) (listed_after e k l) es

-- the rows that are listed
abbrev pub rows_of : Listed → List Row
rows_of l = take l.count l.rows
