-- What is kept of a history beside the daemon, as it goes on.
use Rattle.sl_cell.proofs.LeadLaws.{calls_behind}
use Rattle.sl_cell.specs.Cells.{Goes, GoesOf, IsRest, IsWaiting, queue_of}
use Rattle.sl_cell.specs.Parts.{IsLeft, calls_of, is_of}
use Rattle.sl_cell.specs.Seats.{SeatState}
use Rattle.sl_book.specs.Seats.{HasSeen}
use Rattle.sl_cell.specs.Told.{IsTaken}
use Rattle.sl_cell.specs.declared.part.Part.TheVariants.{Delta, Resource}
use Rattle.sl_cell.specs.declared.part.Part.{Part}
use Rattle.sl_cell.specs.declared.queue.Queue.{Queue}
use Rattle.sl_cell.specs.declared.rest.Rest.{Rest}
use Rattle.sl_book.proofs.Fronts.{prefix_last, prefix_self}
use Rattle.sl_book.proofs.Givens.{entries_last}
use Rattle.sl_cell.proofs.HistoryLaws.{trace_last}
use Rattle.sl_book.specs.Logs.{entries}
use Rattle.sl_cell.specs.Histories.{Signed, trace_of}
use Rattle.sl_trace.specs.Traces.{Setting}
use Rattle.sl_trace.specs.WatchdogConnections.{after_move, connections}
use Rattle.sl_trace.specs.declared.effects.Call.{Call}
use Rattle.sl_trace.specs.declared.effects.Effects.{Effects}
use Rattle.sl_trace.specs.declared.effects.Entry.{Entry}
use Rattle.std.proofs.Common.{List, None, Option, Some, ap, ap₂, append_assoc, arith, drop, filter, fold, length, length-append, refl, slice_get, subst, suc, sym, zero, [], ℕ, ◌++◌, ◌+◌, ◌-◌, ◌∙◌, ◌∷◌, ◌≡◌, ◌≤◌}
use Rattle.std.proofs.lemmas.List.{append-nil, drop-append-le, length-drop}
use mathlib.Core.List.{IsPrefix}

-- ---- no entry

pub rest_new : (st : Setting) (h handed : List Signed) (r : Rest) → h ≡ [] → handed ≡ [] → r.connections.connections ≡ connections st []
    → (r.delta.calls.items ≡ []) × (r.delta.taken ≡ 0) → (r.resource.calls.items ≡ []) × (r.resource.taken ≡ 0) → r.waiting.items ≡ [] → IsRest st h handed r
rest_new st h handed r none nothing connected delta resource waits =
    let es : [] ≡ entries h = sym (ap entries none) in
    record {
      connected = connected ∙ ap (connections st) (sym (ap trace_of none));
      delta = subst (λ xs. IsLeft Delta xs r.delta.taken r.delta.calls.items) es (none_left Delta r.delta delta.0 delta.1);
      resource = subst (λ xs. IsLeft Resource xs r.resource.taken r.resource.calls.items) es (none_left Resource r.resource resource.0 resource.1);
      waits = record {
        behind = subst (λ xs. IsPrefix xs h) (none ∙ sym nothing) (prefix_self h);
        others = ap entries (none ∙ sym nothing) ∙ sym (append-nil (entries handed)) ∙ ap (λ xs. entries handed ++ xs) (sym waits);
      };
    }
  where
    none_left : (part : Part) (q : Queue) → q.calls.items ≡ [] → q.taken ≡ 0 → IsLeft part [] q.taken q.calls.items
    none_left part q empty first = record { most = omega (arith, first); rest = empty ∙ sym (ap (λ n. drop n (calls_of part [])) first) }

-- ---- one entry more

left_on : (part : Part) (es : List Entry) (e : Entry) (taken taken' : ℕ) (cs cs' : List Call) → IsLeft part es taken cs → cs' ≡ cs ++ filter (is_of part) e.effects.calls → taken' ≡ taken
    → IsLeft part (es ++ e ∷ []) taken' cs'
left_on part es e taken taken' cs cs' left more same =
    let made = filter (is_of part) e.effects.calls in
    let all = calls_of part es in
    let grown : calls_of part (es ++ e ∷ []) ≡ all ++ made = calls_behind part es e in
    let most : taken ≤ length all = left.most in
    let count : length (calls_of part (es ++ e ∷ [])) ≡ length all + length made = ap length grown ∙ length-append all made in
    record {
      most = omega (arith, most, count, same);
      rest = more ∙ ap (λ xs. xs ++ made) left.rest ∙ sym (drop-append-le taken all made most) ∙ sym (ap₂ (λ (n : ℕ) (xs : List Call). drop n xs) same grown);
    }

waiting_on : (h handed : List Signed) (s : Signed) (waiting waiting' : List Entry) → IsWaiting h handed waiting → waiting' ≡ waiting ++ s.entry ∷ [] → IsWaiting (h ++ s ∷ []) handed waiting'
waiting_on h handed s waiting waiting' so more = record {
  behind = prefix_last handed h s so.behind;
  others = entries_last h s ∙ ap (λ xs. xs ++ s.entry ∷ []) so.others ∙ append_assoc (entries handed) waiting (s.entry ∷ []) ∙ ap (λ xs. entries handed ++ xs) (sym more);
}

pub rest_on : (st : Setting) (h h' handed : List Signed) (s : Signed) (r r' : Rest) → IsRest st h handed r → h' ≡ h ++ s ∷ []
    → r'.connections.connections ≡ fold after_move r.connections.connections s.entry.effects.moves
    → (r'.delta.calls.items ≡ r.delta.calls.items ++ filter (is_of Delta) s.entry.effects.calls) × (r'.delta.taken ≡ r.delta.taken)
    → (r'.resource.calls.items ≡ r.resource.calls.items ++ filter (is_of Resource) s.entry.effects.calls) × (r'.resource.taken ≡ r.resource.taken)
    → r'.waiting.items ≡ r.waiting.items ++ s.entry ∷ [] → IsRest st h' handed r'
rest_on st h h' handed s r r' rest grown connected delta resource waits =
    let es : entries h ++ s.entry ∷ [] ≡ entries h' = sym (ap entries grown ∙ entries_last h s) in
    record {
      connected = connected ∙ ap (λ cs. fold after_move cs s.entry.effects.moves) rest.connected ∙ ap (connections st) (sym (ap trace_of grown ∙ trace_last h s));
      delta = subst (λ xs. IsLeft Delta xs r'.delta.taken r'.delta.calls.items) es
          (left_on Delta (entries h) s.entry r.delta.taken r'.delta.taken r.delta.calls.items r'.delta.calls.items rest.delta delta.0 delta.1);
      resource = subst (λ xs. IsLeft Resource xs r'.resource.taken r'.resource.calls.items) es
          (left_on Resource (entries h) s.entry r.resource.taken r'.resource.taken r.resource.calls.items r'.resource.calls.items rest.resource resource.0 resource.1);
      waits = subst (λ xs. IsWaiting xs handed r'.waiting.items) (sym grown) (waiting_on h handed s r.waiting.items r'.waiting.items rest.waits waits);
    }

-- ---- it is as it was

pub rest_same : (st : Setting) (h handed : List Signed) (r r' : Rest) → IsRest st h handed r → r'.connections.connections ≡ r.connections.connections
    → (r'.delta.calls.items ≡ r.delta.calls.items) × (r'.delta.taken ≡ r.delta.taken) → (r'.resource.calls.items ≡ r.resource.calls.items) × (r'.resource.taken ≡ r.resource.taken)
    → r'.waiting.items ≡ r.waiting.items → IsRest st h handed r'
rest_same st h handed r r' rest connected delta resource waits = record {
  connected = connected ∙ rest.connected;
  delta = left_same Delta r.delta r'.delta rest.delta delta.0 delta.1;
  resource = left_same Resource r.resource r'.resource rest.resource resource.0 resource.1;
  waits = subst (λ xs. IsWaiting h handed xs) (sym waits) rest.waits;
}
  where
    left_same : (part : Part) (q q' : Queue) → IsLeft part (entries h) q.taken q.calls.items → q'.calls.items ≡ q.calls.items → q'.taken ≡ q.taken
        → IsLeft part (entries h) q'.taken q'.calls.items
    left_same part q q' left calls taken =
        subst (λ n. IsLeft part (entries h) n q'.calls.items) (sym taken) (subst (λ xs. IsLeft part (entries h) q.taken xs) (sym calls) left)

-- a step: room, then what it leaves
pub rest_stepped : (st : Setting) (h h' handed : List Signed) (s : Signed) (e : Entry) (fx : Effects) (r ready r' : Rest) → IsRest st h handed r
    → ready.connections.connections ≡ r.connections.connections
    → (ready.delta.calls.items ≡ r.delta.calls.items) × (ready.delta.taken ≡ r.delta.taken) → (ready.resource.calls.items ≡ r.resource.calls.items) × (ready.resource.taken ≡ r.resource.taken)
    → ready.waiting.items ≡ r.waiting.items → h' ≡ h ++ s ∷ [] → s.entry.effects ≡ fx → e ≡ s.entry
    → r'.connections.connections ≡ fold after_move ready.connections.connections fx.moves
    → (r'.delta.calls.items ≡ ready.delta.calls.items ++ filter (is_of Delta) fx.calls) × (r'.delta.taken ≡ ready.delta.taken)
    → (r'.resource.calls.items ≡ ready.resource.calls.items ++ filter (is_of Resource) fx.calls) × (r'.resource.taken ≡ ready.resource.taken)
    → r'.waiting.items ≡ ready.waiting.items ++ e ∷ [] → IsRest st h' handed r'
rest_stepped st h h' handed s e fx r ready r' rest connected delta resource waits grown told is connected' delta' resource' waits' =
    let back : fx ≡ s.entry.effects = sym told in
    rest_on st h h' handed s ready r' (rest_same st h handed r ready rest connected delta resource waits) grown
    (subst (λ (x : Effects). r'.connections.connections ≡ fold after_move ready.connections.connections x.moves) back connected')
    (subst (λ (x : Effects). r'.delta.calls.items ≡ ready.delta.calls.items ++ filter (is_of Delta) x.calls) back delta'.0, delta'.1)
    (subst (λ (x : Effects). r'.resource.calls.items ≡ ready.resource.calls.items ++ filter (is_of Resource) x.calls) back resource'.0, resource'.1)
    (subst (λ (x : Entry). r'.waiting.items ≡ ready.waiting.items ++ x ∷ []) is waits')

-- .. and room for the next one
pub rest_ready : (st : Setting) (h h' handed : List Signed) (s : Signed) (e : Entry) (fx : Effects) (r ready r' r'' : Rest) → IsRest st h handed r
    → ready.connections.connections ≡ r.connections.connections
    → (ready.delta.calls.items ≡ r.delta.calls.items) × (ready.delta.taken ≡ r.delta.taken) → (ready.resource.calls.items ≡ r.resource.calls.items) × (ready.resource.taken ≡ r.resource.taken)
    → ready.waiting.items ≡ r.waiting.items → h' ≡ h ++ s ∷ [] → s.entry.effects ≡ fx → e ≡ s.entry
    → r'.connections.connections ≡ fold after_move ready.connections.connections fx.moves
    → (r'.delta.calls.items ≡ ready.delta.calls.items ++ filter (is_of Delta) fx.calls) × (r'.delta.taken ≡ ready.delta.taken)
    → (r'.resource.calls.items ≡ ready.resource.calls.items ++ filter (is_of Resource) fx.calls) × (r'.resource.taken ≡ ready.resource.taken)
    → r'.waiting.items ≡ ready.waiting.items ++ e ∷ []
    → r''.connections.connections ≡ r'.connections.connections
    → (r''.delta.calls.items ≡ r'.delta.calls.items) × (r''.delta.taken ≡ r'.delta.taken) → (r''.resource.calls.items ≡ r'.resource.calls.items) × (r''.resource.taken ≡ r'.resource.taken)
    → r''.waiting.items ≡ r'.waiting.items → IsRest st h' handed r''
rest_ready st h h' handed s e fx r ready r' r'' rest connected delta resource waits grown told is connected' delta' resource' waits' connected'' delta'' resource'' waits'' =
    rest_same st h' handed r' r''
    (rest_stepped st h h' handed s e fx r ready r' rest connected delta resource waits grown told is connected' delta' resource' waits') connected'' delta'' resource'' waits''

-- ---- a call goes

first_of : (xs : List Call) (n : ℕ) (c : Call) (rest : List Call) → c ∷ rest ≡ drop n xs → (slice_get xs n ≡ Some c) × (rest ≡ drop (n + 1) xs) × (n + 1 ≤ length xs)
first_of [] zero c rest is = absurd (cc is)
first_of [] (suc n) c rest is = absurd (cc is)
first_of (x ∷ xs) zero c rest is = (cc is, cc is, omega arith)
first_of (x ∷ xs) (suc n) c rest is =
    let so = first_of xs n c rest is in
    let le : n + 1 ≤ length xs = so.2 in
    let next : suc n + 1 ≡ suc (n + 1) = omega arith in
    (so.0, subst (λ (k : ℕ). rest ≡ drop k (x ∷ xs)) (sym next) so.1, omega (arith, le))

none_of : (xs : List Call) (n : ℕ) → [] ≡ drop n xs → n ≤ length xs → n ≡ length xs
none_of xs n is le =
    let few : length (drop n xs) ≡ length xs - n = length-drop n xs in
    let none : 0 ≡ length (drop n xs) = ap length is in
    omega (arith, few, none, le)

left_goes : (part : Part) (es : List Entry) (q q' : Queue) (o : Option Call) → IsLeft part es q.taken q.calls.items → Goes q q' o → IsLeft part es q'.taken q'.calls.items
left_goes part es q q' (Some c) left goes =
    let so = first_of (calls_of part es) q.taken c q'.calls.items (sym goes.0 ∙ left.rest) in
    let most : q.taken + 1 ≤ length (calls_of part es) = so.2 in
    let next : q'.taken ≡ q.taken + 1 = goes.1 in
    record { most = omega (arith, most, next); rest = so.1 ∙ ap (λ n. drop n (calls_of part es)) (sym next) }
left_goes part es q q' None left goes =
    record { most = subst (λ n. n ≤ length (calls_of part es)) (sym goes.2) left.most; rest = goes.1 ∙ sym goes.0 ∙ left.rest ∙ ap (λ n. drop n (calls_of part es)) (sym goes.2) }

pub rest_goes : (st : Setting) (h handed : List Signed) (part : Part) (r r' : Rest) (o : Option Call) → IsRest st h handed r → GoesOf part r r' o → IsRest st h handed r'
rest_goes st h handed Delta r r' o rest goes = record {
  connected = ap (λ v. v.connections) goes.connected ∙ rest.connected;
  delta = left_goes Delta (entries h) r.delta r'.delta o rest.delta goes.here;
  resource = subst (λ (q : Queue). IsLeft Resource (entries h) q.taken q.calls.items) (sym goes.there) rest.resource;
  waits = subst (λ v. IsWaiting h handed v.items) (sym goes.waits) rest.waits;
}
rest_goes st h handed Resource r r' o rest goes = record {
  connected = ap (λ v. v.connections) goes.connected ∙ rest.connected;
  delta = subst (λ (q : Queue). IsLeft Delta (entries h) q.taken q.calls.items) (sym goes.there) rest.delta;
  resource = left_goes Resource (entries h) r.resource r'.resource o rest.resource goes.here;
  waits = subst (λ v. IsWaiting h handed v.items) (sym goes.waits) rest.waits;
}

left_of : (st : Setting) (h handed : List Signed) (part : Part) (r : Rest) → IsRest st h handed r → IsLeft part (entries h) (queue_of part r).taken (queue_of part r).calls.items
left_of st h handed Delta r rest = rest.delta
left_of st h handed Resource r rest = rest.resource

-- there is a number for the next one
pub goes_fits : (st : Setting) (h handed : List Signed) (part : Part) (r : Rest) (n : ℕ) → IsRest st h handed r → length (calls_of part (entries h)) ≤ n
    → (queue_of part r).taken + length (queue_of part r).calls.items ≤ n
goes_fits st h handed part r n rest le =
    let left = left_of st h handed part r rest in
    let most : (queue_of part r).taken ≤ length (calls_of part (entries h)) = left.most in
    let count : length (queue_of part r).calls.items ≡ length (calls_of part (entries h)) - (queue_of part r).taken =
    ap length left.rest ∙ length-drop (queue_of part r).taken (calls_of part (entries h)) in
    omega (arith, le, most, count)

-- what the seat is told of it
pub taken_told : (st : Setting) (h handed : List Signed) (part : Part) (r r' : Rest) (o : Option Call) (s s' : SeatState) → IsRest st h handed r → GoesOf part r r' o
    → (queue_of part r).taken ≡ s.taken → s'.taken ≡ (queue_of part r').taken → HasSeen s s' → s'.front ≡ h → IsTaken part s s' o
taken_told st h handed part r r' (Some c) s s' rest goes had has seen front =
    let left = left_of st h handed part r rest in
    let so = first_of (calls_of part (entries h)) (queue_of part r).taken c (queue_of part r').calls.items (sym goes.here.0 ∙ left.rest) in
    record {
      seen = seen;
      call = ap₂ (λ (xs : List Signed) (n : ℕ). slice_get (calls_of part (entries xs)) n) front (sym had) ∙ so.0;
      taken = has ∙ goes.here.1 ∙ ap (λ n. n + 1) had;
    }
taken_told st h handed part r r' None s s' rest goes had has seen front =
    let left = left_of st h handed part r rest in
    let all : (queue_of part r).taken ≡ length (calls_of part (entries h)) = none_of (calls_of part (entries h)) (queue_of part r).taken (sym goes.here.0 ∙ left.rest) left.most in
    record {
      seen = seen;
      all = sym had ∙ all ∙ ap (λ (xs : List Signed). length (calls_of part (entries xs))) (sym front);
      taken = has ∙ goes.here.2 ∙ had;
    }

-- ---- all is handed out

pub rest_handed : (st : Setting) (h handed : List Signed) (r r' : Rest) → IsRest st h handed r → r'.connections ≡ r.connections → r'.delta ≡ r.delta → r'.resource ≡ r.resource
    → r'.waiting.items ≡ [] → IsRest st h h r'
rest_handed st h handed r r' rest connected delta resource none = record {
  connected = ap (λ v. v.connections) connected ∙ rest.connected;
  delta = subst (λ (q : Queue). IsLeft Delta (entries h) q.taken q.calls.items) (sym delta) rest.delta;
  resource = subst (λ (q : Queue). IsLeft Resource (entries h) q.taken q.calls.items) (sym resource) rest.resource;
  waits = record { behind = prefix_self h; others = sym (append-nil (entries h)) ∙ ap (λ xs. entries h ++ xs) (sym none) };
}

pub none_waits : (h handed : List Signed) (waiting : List Entry) → IsWaiting h handed waiting → handed ≡ h → waiting ≡ []
none_waits h handed waiting so same =
    let all : length (entries h) ≡ length (entries h) + length waiting =
    ap length so.others ∙ length-append (entries handed) waiting ∙ ap (λ (xs : List Signed). length (entries xs) + length waiting) same in
    empty waiting (omega (arith, all))
  where
    empty : (xs : List Entry) → length xs ≡ 0 → xs ≡ []
    empty [] is = refl
    empty (x ∷ xs) is = absurd (omega (arith, is))

pub all_out : (st : Setting) (h handed mine all : List Signed) (r : Rest) → IsRest st h handed r → all ≡ h → handed ≡ mine → all ≡ mine → (h ≡ mine) × (r.waiting.items ≡ [])
all_out st h handed mine all r rest here there whole =
    let is : h ≡ mine = sym here ∙ whole in
    (is, none_waits h handed r.waiting.items rest.waits (there ∙ sym is))
