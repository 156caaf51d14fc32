-- Laws for a loop over the schedule, of any machine.
use Rattle.std.proofs.Common.{◌≡◌, refl, sym, ap, ◌∙◌, List, [], ◌∷◌, ◌++◌, map, ℕ, zero, suc, ◌+◌, ◌*◌, ◌≤◌, ◌<◌, arith, length, get_or, replicate, length-append, false, ltb, ltb-false}
use lib.ListN.{length-replicate, length-map}
use lib.Seq.{length-sets}
use Rattle.rules.specs.Memory.{pick}
use Rattle.rules.specs.Bounds.{most_procs, most_turns}
use Rattle.rules.specs.Settings.{Settings}
use Rattle.rules.specs.Step.{code, Machine}
use Rattle.rules.specs.Course.{Course, turn, outset}
use Rattle.rules.specs.Tally.{Tally, blank}
use Rattle.rules.specs.Play.{Run, first, next, taking, ended, whole}
use Rattle.rules.specs.Calls.{over}
use Rattle.rules.proofs.Accepted.{Accepted, Below}
use Rattle.rules.proofs.Views.{column, column_blank, over_next}
use Rattle.rules.proofs.Counts.{Table≤}
use Rattle.rules.proofs.Turned.{Told, told, Turned, same_tally, codes≤, done_told}
use Rattle.rules.proofs.Going.{Going, As, going_first, going_all, going_past, going_next, as_next}
use Rattle.turns.specs.declared.played.Played.{Played}
use Rattle.turns.specs.declared.played.Stop.{Stop}
use Rattle.turns.specs.declared.played.Stop.TheVariants.{UsedUp, Budget}
use Rattle.turns.specs.Stopping.{stop_number}
use Rattle.turns.specs.CountView.{numbers, done_of, tally_of, Room, Counted, Noted}
use Rattle.turns.specs.PlayView.{PlayedIs}

-- after k turns: r is the run so far, and the program has its state, its course, its numbers and its events
pub record Held (m : Machine) (s : Settings) (turns events₀ events : List ℕ) (x : m.State) (c : Course) (a : List ℕ) (total n k : ℕ) : Type 0 where
  pub r : Run m.State
  pub es : List ℕ
  pub accepted : Accepted s turns
  pub wide : 2 * length turns ≤ length events₀
  pub going : Going m s turns k r
  pub has : As r x c (tally_of a total) es
  pub done : c.done ≡ done_of a
  pub count : n ≡ length es
  pub row : events ≡ over es events₀
  pub long : length events ≡ length events₀
  pub sums : length a ≡ most_procs * numbers

-- nothing is counted yet
abbrev pub no_sums : List ℕ
no_sums = replicate (most_procs * numbers) 0

blank_tally : blank ≡ tally_of no_sums 0
blank_tally =
    same_tally blank (tally_of no_sums 0) (sym (column_blank numbers 1 (most_procs * numbers))) (sym (column_blank numbers 2 (most_procs * numbers))) (sym (column_blank numbers 3 (most_procs * numbers))) (sym (column_blank numbers 4 (most_procs * numbers)))
    (sym (column_blank numbers 5 (most_procs * numbers))) refl

-- a turn of the schedule is below procs
turn_below : (p : ℕ) (turns : List ℕ) (k : ℕ) → Below p turns → k < length turns → get_or turns k 0 < p
turn_below p [] k b h = absurd (omega arith)
turn_below p (i ∷ t) zero b h = b.0
turn_below p (i ∷ t) (suc k) b h = turn_below p t k b.1 (omega arith)

-- before the first turn
pub held_first : {m : Machine} {s : Settings} {turns events₀ : List ℕ} {x : m.State} {c : Course} → Accepted s turns → 2 * length turns ≤ length events₀ → x ≡ m.start s → c ≡ outset
    → Held m s turns events₀ events₀ x c no_sums 0 0 0
held_first {m} {s} {turns} {events₀} {x} {c} ok wide a b = record {
  r = first m s;
  es = [];
  accepted = ok;
  wide = wide;
  going = going_first m s turns;
  has = record { memory = sym a; course = sym b; tally = blank_tally; events = refl };
  done = rw b (sym (column_blank numbers 0 (most_procs * numbers)));
  count = refl;
  row = refl;
  long = refl;
  sums = length-replicate {A = ℕ} (most_procs * numbers) 0;
}

-- the whole run is q, and the program has its numbers
finished : (m : Machine) (s : Settings) (turns events₀ : List ℕ) (q : Run m.State) (events : List ℕ) (p : Played) → q ≡ whole m s turns → stop_number p.stop ≡ pick q.stopped 1 0
    → p.taken ≡ q.taken → p.events ≡ length q.events → events ≡ over (map code q.events) events₀ → done_of p.sums ≡ q.course.done
    → tally_of p.sums p.total ≡ q.tally → PlayedIs m s turns events₀ events p
finished m s turns events₀ q events p e a b c f g h =
    record { stop = rw (← e) a; taken = rw (← e) b; events = rw (← e) c; row = rw (← e) f; done = rw (← e) g; tally = rw (← e) h }

module _ {m : Machine} {s : Settings} {turns events₀ events : List ℕ} {x : m.State} {c : Course} {a : List ℕ} {total n k : ℕ}
    (h : Held m s turns events₀ events x c a total n k) where
  events_are : length h.es ≡ length h.r.events
  events_are = rw (← h.has.events) (length-map h.r.events code)

  -- q is the run so far, or the same, ended
  whole_is : (q : Run m.State) (stop : Stop) → q ≡ whole m s turns → q.events ≡ h.r.events → q.taken ≡ h.r.taken → q.tally ≡ h.r.tally
      → q.course ≡ h.r.course → stop_number stop ≡ pick q.stopped 1 0
      → PlayedIs m s turns events₀ events (record { stop = stop; taken = k; events = n; total = total; sums = a })
  whole_is q stop e ev tk ta co f =
      finished m s turns events₀ q events _ e f (sym (tk ∙ h.going.taken)) (h.count ∙ events_are ∙ ap length (sym ev))
      (h.row ∙ ap (λ (l : List ℕ). over l events₀) (sym h.has.events ∙ ap (map code) (sym ev)))
      (sym h.done ∙ ap (λ (z : Course). z.done) (sym (co ∙ h.has.course)))
      (sym (ta ∙ h.has.tally))

  pub held_all : false ≡ ltb k (length turns) → PlayedIs m s turns events₀ events (record { stop = UsedUp; taken = k; events = n; total = total; sums = a })
  held_all e =
      let k_is : k ≡ length turns = omega (arith, ltb-false _ _ (sym e), h.going.within) in
      whole_is h.r UsedUp (going_all m s turns k h.r h.going k_is) refl refl refl refl (rw h.going.on refl)

  -- ---- the next turn is processor w's

  module _ {w : ℕ} (read : (k < length turns) × ((d : ℕ) → w ≡ get_or turns k d)) where
    pub record Known : Type 0 where
      pub below : w < s.procs
      pub home : s.home < s.procs
      pub procs : s.procs ≤ most_procs
      pub low : w < most_procs
      pub done : c.done w < 65535

    pub held_known : Known
    held_known =
        let ok = h.accepted in
        let below : w < s.procs = rw (read.1 0) (turn_below s.procs turns k ok.turns_below read.0) in
        let done : c.done w ≤ k = rw h.has.course at (h.going.small.done w) in
        record {
          below = below;
          home = ok.home;
          procs = ok.procs_high;
          low = omega (arith, ok.procs_high);
          done = omega (arith, done, ok.few);
        }

    -- the turn is made: `tell` may be called, and the run ends before it or goes on after it
    pub record Made {x' : m.State} {c' : Course} {d : Told} (t : Turned m s x c w x' c' d) (far : ℕ) : Type 0 where
      pub tell : Room w a × (n + 2 ≤ length events)
      pub past : s.budget < total + far → PlayedIs m s turns events₀ events (record { stop = Budget; taken = k; events = n; total = total; sums = a })
      pub on : total + far ≤ s.budget → {b events' : List ℕ} {n' : ℕ} → Counted w d a b × Noted events n d.codes events' n' → length b ≡ length a
          → Held m s turns events₀ events' x' c' b (total + far) n' (k + 1)

    -- each of the processor's numbers is at most the turns taken
    room_of : Room w a
    unfolding column
    room_of =
        let b = held_known.low in
        record { place = omega (arith, h.sums); few = few; low = low w }
      where
        low : (j : ℕ) → (tally_of a total).here j ≤ (tally_of a total).most j
        low = rw h.has.tally at h.going.low

        t : Table≤ k c (tally_of a total)
        t = rw (h.has.course, h.has.tally) at h.going.small

        taken : k < most_turns
        taken = omega (arith, h.accepted.few, read.0)

        few : (j : ℕ) → j < numbers → get_or a (w * numbers + j) 0 < 65535
        few zero u = let z = t.done w in omega (arith, taken, rw h.done at z)
        few (suc zero) u = omega (arith, taken, t.far w)
        few (suc (suc zero)) u = omega (arith, taken, t.most w)
        few (suc (suc (suc zero))) u = omega (arith, taken, t.here w)
        few (suc (suc (suc (suc zero)))) u = omega (arith, taken, t.spins w)
        few (suc (suc (suc (suc (suc zero))))) u = omega (arith, taken, t.idle w)
        few (suc (suc (suc (suc (suc (suc j)))))) u = absurd (omega arith)

    -- ---- the turn is made

    module _ {x' : m.State} {c' : Course} {d : Told} (turned : Turned m s x c w x' c' d) where
      tells : d ≡ told w (h.r.course.at w) (next m s h.r w)
      tells = rw (h.has.memory, h.has.course) turned.tells

      total_is : total ≡ h.r.tally.total
      total_is = ap (λ (z : Tally). z.total) (sym h.has.tally)

      module _ {far : ℕ} (f : far ≡ d.far) where
        past : s.budget < total + far → PlayedIs m s turns events₀ events (record { stop = Budget; taken = k; events = n; total = total; sums = a })
        past b =
            whole_is (ended h.r) Budget (going_past m s turns k h.r h.going w d read.0 (read.1 0) tells (omega (arith, total_is))) refl refl refl refl refl

        on : total + far ≤ s.budget → {b events' : List ℕ} {n' : ℕ} → Counted w d a b × Noted events n d.codes events' n' → length b ≡ length a
            → Held m s turns events₀ events' x' c' b (total + far) n' (k + 1)
        on l (u, v) o =
            let two : length d.codes ≤ 2 = rw tells (codes≤ w (h.r.course.at w) (next m s h.r w)) in
            record {
              r = taking m s h.r w;
              es = h.es ++ d.codes;
              accepted = h.accepted;
              wide = h.wide;
              going = going_next m s turns k h.r h.going w d read.0 (read.1 0) tells (omega (arith, total_is));
              has = rw (f, u.tally total) (as_next m s h.r w x x' c c' (tally_of a total) h.es d h.going.low h.has turned);
              done = rw (turned.course, done_told s w (c.at w) (turn m s x c w) c, ← turned.tells, h.done) (sym u.done);
              count = v.place ∙ rw (h.count, length-append h.es d.codes);
              row = v.row ∙ over_next h.es d.codes events₀ h.row h.count (omega (arith, two, events_are, h.going.few, h.wide));
              long = rw v.row (length-sets events n d.codes) ∙ h.long;
              sums = o ∙ h.sums;
            }

        pub held_made : Made turned far
        held_made = record {
          tell = (room_of, omega (arith, h.count, events_are, h.going.few, h.wide, h.long, read.0));
          past = past;
          on = on;
        }
