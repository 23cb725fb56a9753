-- A seat, a time or a header's number that is too wide for the library is answered as the number that it is: it is refused, as the
-- largest that fits is.
-- Assumes nothing.
use mathlib.Core.Path.{◌≡◌, refl, sym, ◌∙◌, ap}
use mathlib.Core.Logic.{◌⊎◌, inl, inr}
use mathlib.Core.Bool.{Bool, true, false, ◌&&◌}
use Prim.Native.Nat.{ℕ, ◌≤◌, ◌<◌}
use native.Mathlib.Omega.{arith}
use lib.Dec.{leb, ltb}
use lib.ListN.{length}
use borrow.Author.Tests.{le-ltb, lt-leb}
use Rattle.farm.specs.Limits.{limits}
use Rattle.farm.specs.declared.places.Seat.{Seat}
use Rattle.farm.specs.declared.places.Time.{Time}
use Rattle.farm.specs.declared.refusals.Refusal.TheVariants.{NoSuchPlace}
use Rattle.farm.proofs.Cases.{less-or-not, true-or-false, false-back}
use Rattle.knowledge.specs.Farm.{Farm}
use Rattle.record.specs.declared.header.Header.{Header}
use Rattle.record.specs.Good.{good_header, good_record}
use Rattle.record.specs.Record.{Record, Reading, good, bad}
use Rattle.record.specs.Tables.{Tables}
use Rattle.record.specs.Writing.{unless, judged, judged_lists, checked_lists}
use Rattle.record.proofs.GoodLaws.{header-facts, record-facts}
use Rattle.questions.specs.Question.{Asked, refused, Lent, by_value, provided, looking, on_record, is_place, view_in, known_in, settled_in, loser_in, view_asked, known_asked, settled_asked, core_asked, marks_asked, count_asked, loser_asked, farm_of_record}
use Rattle.questions.specs.Answers.{seen_asked, agreed_asked, seen_answer, agreed_answer}
use Rattle.host.specs.Numbers.{at_most}
use Rattle.host.proofs.NumberLaws.{far-number, near-number}

-- What is known of a record that was read as good.
abbrev pub Sound : Reading → Type 0
Sound reading = (r : Record) → reading ≡ good r → good_record limits r ≡ true

-- A farm of a good record has fewer seats and rounds than the library's numbers can say.
pub record Small (farm : Farm) : Type 0 where
  pub seats : farm.seats ≤ 255
  pub rounds : farm.rounds < 65535

pub small-record : (r : Record) → good_record limits r ≡ true → Small (farm_of_record r)
small-record r g =
    let f = header-facts limits _ (record-facts limits r g).header in
    record { seats = omega arith; rounds = omega arith }

-- ════ A place: both numbers fit, or there is no such place either way ════

seat-far : (farm : Farm) (s : ℕ) → farm.seats ≤ s → (t : ℕ) → is_place farm (record { 0 = s }) (record { 0 = t }) ≡ false
unfolding is_place
seat-far farm s far t = rw (le-ltb s farm.seats far)

time-far : (farm : Farm) (t : ℕ) → farm.rounds < t → (s : ℕ) → is_place farm (record { 0 = s }) (record { 0 = t }) ≡ false
unfolding is_place
time-far farm t far s = by (ltb s farm.seats) refl
  where
    by : (b : Bool) → ltb s farm.seats ≡ b → (ltb s farm.seats && leb t farm.rounds) ≡ false
    by true e = rw (e, lt-leb t farm.rounds far)
    by false e = rw e

-- The two numbers as the library gets them.
module _ (s t : ℕ) where
  abbrev p : Seat
  p = record { 0 = s }

  abbrev p' : Seat
  p' = record { 0 = at_most 255 s }

  abbrev ℓ : Time
  ℓ = record { 0 = t }

  abbrev ℓ' : Time
  ℓ' = record { 0 = at_most 65535 t }

  -- A question that refuses what is no place.
  placed : {A : Type 0} (farm : Farm) → Small farm → (ask : Seat → Time → Asked A)
      → ((q : Seat) (k : Time) → is_place farm q k ≡ false → ask q k ≡ refused NoSuchPlace) → ask p' ℓ' ≡ ask p ℓ
  placed farm small ask none = by (less-or-not 255 s) (less-or-not 65535 t)
    where
      by : (255 < s) ⊎ (s ≤ 255) → (65535 < t) ⊎ (t ≤ 65535) → ask p' ℓ' ≡ ask p ℓ
      by (inl far) _ =
          none p' ℓ' (rw (sym (far-number 255 s far)) (seat-far farm 255 small.seats (at_most 65535 t)))
          ∙ sym (none p ℓ (seat-far farm s (omega (arith, small.seats)) t))
      by (inr near) (inl far) =
          none p' ℓ' (rw (sym (far-number 65535 t far)) (time-far farm 65535 small.rounds (at_most 255 s)))
          ∙ sym (none p ℓ (time-far farm t (omega (arith, small.rounds)) s))
      by (inr near) (inr close) = rw (sym (near-number 255 s near), sym (near-number 65535 t close)) refl

  view-in : (lent : Lent) (farm : Farm) → Small farm → view_in lent farm p' ℓ' ≡ view_in lent farm p ℓ
  unfolding view_in provided
  view-in lent farm small = placed farm small (view_in lent farm) (λ q k e. rw e refl)

  known-in : (farm : Farm) → Small farm → known_in farm p' ℓ' ≡ known_in farm p ℓ
  unfolding known_in provided
  known-in farm small = placed farm small (known_in farm) (λ q k e. rw e refl)

  settled-in : (lent : Lent) (need : ℕ) (farm : Farm) → Small farm → settled_in lent need farm p' ℓ' ≡ settled_in lent need farm p ℓ
  unfolding settled_in provided
  settled-in lent need farm small = placed farm small (settled_in lent need farm) (λ q k e. rw e refl)

  loser-in : (farm : Farm) → Small farm → loser_in farm p' ≡ loser_in farm p
  unfolding loser_in provided
  loser-in farm small = by (less-or-not 255 s)
    where
      by : (255 < s) ⊎ (s ≤ 255) → loser_in farm p' ≡ loser_in farm p
      by (inl far) = rw (sym (far-number 255 s far), le-ltb 255 farm.seats small.seats, le-ltb s farm.seats (omega (arith, small.seats))) refl
      by (inr near) = rw (sym (near-number 255 s near)) refl

  -- ════ On a reading ════

  on-reading : {A : Type 0} (reading : Reading) → Sound reading → (ask ask' : Record → Asked A)
      → ((r : Record) → Small (farm_of_record r) → ask r ≡ ask' r) → on_record reading ask ≡ on_record reading ask'
  unfolding on_record
  on-reading (good r) sound ask ask' same = same r (small-record r (sound r refl))
  on-reading (bad x) sound ask ask' same = refl

  module _ (reading : Reading) (sound : Sound reading) where
    pub view-wide : (lent : Lent) → view_asked lent reading p' ℓ' ≡ view_asked lent reading p ℓ
    view-wide lent = on-reading reading sound _ _ (λ r small. view-in lent (farm_of_record r) small)

    pub core-wide : (lent : Lent) → core_asked lent reading p' ℓ' ≡ core_asked lent reading p ℓ
    core-wide lent = on-reading reading sound _ _ (λ r small. ap (looking _) (settled-in lent _ (farm_of_record r) small))

    pub marks-wide : (lent : Lent) → marks_asked lent reading p' ℓ' ≡ marks_asked lent reading p ℓ
    marks-wide lent = on-reading reading sound _ _ (λ r small. ap (looking _) (settled-in lent _ (farm_of_record r) small))

    pub standing-wide : loser_asked reading p' ≡ loser_asked reading p
    standing-wide = on-reading reading sound _ _ (λ r small. loser-in (farm_of_record r) small)

    known-wide : known_asked reading p' ℓ' ≡ known_asked reading p ℓ
    known-wide = on-reading reading sound _ _ (λ r small. known-in (farm_of_record r) small)

    settled-wide : settled_asked reading p' ℓ' ≡ settled_asked reading p ℓ
    settled-wide = on-reading reading sound _ _ (λ r small. settled-in by_value 0 (farm_of_record r) small)

    count-wide : count_asked reading p' ℓ' ≡ count_asked reading p ℓ
    count-wide = on-reading reading sound _ _ (λ r small. ap (looking _) (settled-in by_value 0 (farm_of_record r) small))

    pub seen-wide : seen_asked reading p' ℓ' ≡ seen_asked reading p ℓ
    seen-wide i = seen_answer (view-wide by_value i) (known-wide i)

    pub agreed-wide : agreed_asked reading p' ℓ' ≡ agreed_asked reading p ℓ
    agreed-wide i = agreed_answer (settled-wide i) (core-wide by_value i) (count-wide i)

-- ════ The numbers of a header ════

-- What is cut to less than the most was not cut.
small-number : (most number : ℕ) → at_most most number < most → number ≤ most
small-number most number less = by (less-or-not most number)
  where
    by : (most < number) ⊎ (number ≤ most) → number ≤ most
    by (inl far) = omega (arith, less, far-number most number far)
    by (inr near) = near

-- A good header's numbers fit.
pub record Fits (n t R : ℕ) : Type 0 where
  pub seats : n ≤ 255
  pub bound : t ≤ 255
  pub rounds : R ≤ 65535

module _ (n t R edits : ℕ) where
  abbrev wide : Header
  wide = record { seats = n; bound = t; rounds = R; edits = edits }

  abbrev cut : Header
  cut = record { seats = at_most 255 n; bound = at_most 255 t; rounds = at_most 65535 R; edits = edits }

  good-fits : good_header limits wide ≡ true → Fits n t R
  good-fits g =
      let f = header-facts limits wide g in
      record { seats = omega (arith, f.most); bound = omega (arith, f.bound, f.most); rounds = omega (arith, f.rounds) }

  fits_cut : Fits n t R → cut ≡ wide
  fits_cut f = rw (sym (near-number 255 n f.seats), sym (near-number 255 t f.bound), sym (near-number 65535 R f.rounds)) refl

  cut-good : good_header limits cut ≡ true → Fits n t R
  cut-good g =
      let f = header-facts limits cut g in
      record { seats = small-number 255 n (omega (arith, f.most)); bound = small-number 255 t (omega (arith, f.bound, f.most)); rounds = small-number 65535 R (omega (arith, f.rounds)) }

  -- Both are good, and then they are the same, or both are not.
  pub header-wide : (Fits n t R) ⊎ ((good_header limits cut ≡ false) × (good_header limits wide ≡ false))
  header-wide = by (true-or-false (good_header limits wide))
    where
      by : (good_header limits wide ≡ true) ⊎ (good_header limits wide ≡ false) → (Fits n t R) ⊎ ((good_header limits cut ≡ false) × (good_header limits wide ≡ false))
      by (inl g) = inl (good-fits g)
      by (inr b) = inr (false-back (good_header limits cut) (good_header limits wide) (λ g. ap (good_header limits) (sym (fits_cut (cut-good g))) ∙ g) b, b)

module _ (n t R : ℕ) (lists : Tables) where
  pub lists-wide : checked_lists limits (at_most 255 n) (at_most 255 t) (at_most 65535 R) lists ≡ checked_lists limits n t R lists
  unfolding checked_lists judged_lists judged unless
  lists-wide = by (header-wide n t R (length lists.seats))
    where
      by : (Fits n t R) ⊎ ((good_header limits (cut n t R (length lists.seats)) ≡ false) × (good_header limits (wide n t R (length lists.seats)) ≡ false))
          → checked_lists limits (at_most 255 n) (at_most 255 t) (at_most 65535 R) lists ≡ checked_lists limits n t R lists
      by (inl f) = rw (sym (near-number 255 n f.seats), sym (near-number 255 t f.bound), sym (near-number 65535 R f.rounds)) refl
      by (inr f) = rw (f.0, f.1) refl
