-- The slots of a major frame: each record's word, and the range and samples of each with MAG, in their own slot, 0 in all
-- others.
-- Assumes nothing.
use mathlib.Core.Path.{◌≡◌, refl, sym, ap, ◌∙◌}
use mathlib.Core.Bool.{true, cond}
use mathlib.Core.List.{List, [], ◌∷◌}
use Prim.Native.Nat.{ℕ, ◌+◌, ◌*◌, ◌<◌}
use native.Mathlib.Omega.{arith}
use lib.IntN.{ℤ, pos}
use lib.ListN.{length, get_or, set, get_or-replicate}
use Rattle.prelude.specs.Marks.{marked}
use Rattle.prelude.specs.Every.{Every}
use Rattle.prelude.proofs.Built.{length_build, get_d_build}
use Rattle.buffers.specs.Laying.{patch}
use Rattle.record.specs.Layout.{mag_bytes}
use Rattle.record.specs.Contents.{record_of}
use Rattle.mag.specs.Samples.{samples_size, range, sample, samples}
use Rattle.major.specs.Major.{slots, major_samples, no_major, into}
use Rattle.major.specs.Shape.{Shaped}
use Rattle.major.specs.declared.Major.{Major}
use Rattle.gathering.specs.Lists.{Linked}
use Rattle.gathering.specs.Laying.{put_all, Rising, Unused}
use Rattle.gathering.proofs.Buffers.{Block, singles, blocks}
use Rattle.gathering.proofs.Grouping.{all_share, rising_links}
use Rattle.gathering.proofs.Laying.{put_part, all_fit, stays, stand}
use Rattle.gathering.proofs.Marking.{marks_from, marks_set, marks_free, marks_count, marks_below}
use Rattle.gathering.proofs.Members.{In, in_every, every_in, in_those}
use Rattle.gathering.proofs.Those.{put_those, rising_those}
use Rattle.stream.specs.Running.{ClosedMajor}
use Rattle.stream.specs.Sending.{Kept, has_mag, magged}
use Rattle.stream.specs.Cutting.{major, Beside}
use Rattle.stream.specs.Filling.{packet, slot, Sampled, Slotted, NoSlot, NoMag, MajorFilled}
use Rattle.stream.proofs.Calls.{samples_with, no_samples, major_with}
use Rattle.stream.proofs.Frames.{major_from, samples_from, major_of}

abbrev word_of : Kept → ℕ
word_of f = (record_of f.bytes).subcom

abbrev range_of : Kept → ℕ
range_of f = range (mag_bytes (packet f))

abbrev samples_of : Kept → List ℤ
samples_of f = samples (mag_bytes (packet f))

-- The parts of a major frame, each by itself: marks and words of all records, marks, ranges and samples of those with MAG.
module _ (g : List Kept) where
  slots_are : (major_from no_major g).slots ≡ marks_from slot 0 g
  unfolding major_with into
  slots_are = put_part (λ m. m.slots) major_with (λ f n. marked n (slot f)) (λ f m. refl) g no_major

  words_are : (major_from no_major g).words ≡ put_all (λ f b. set b (slot f) (word_of f)) no_major.words g
  unfolding major_with into
  words_are = put_part (λ m. m.words) major_with (λ f b. set b (slot f) (word_of f)) (λ f m. refl) g no_major

  mags_are : (major_from no_major g).mag_slots ≡ marks_from slot 0 (magged g)
  unfolding major_with into
  mags_are =
      put_part (λ m. m.mag_slots) major_with (λ f n. cond (has_mag f) (marked n (slot f)) n) (λ f m. refl) g no_major
      ∙ put_those has_mag (λ f n. marked n (slot f)) g 0

  ranges_are : (major_from no_major g).ranges ≡ put_all (λ f b. set b (slot f) (range_of f)) no_major.ranges (magged g)
  unfolding major_with into
  ranges_are =
      put_part (λ m. m.ranges) major_with (λ f b. cond (has_mag f) (set b (slot f) (range_of f)) b) (λ f m. refl) g no_major
      ∙ put_those has_mag (λ f b. set b (slot f) (range_of f)) g no_major.ranges

  samples_are : samples_from no_samples g ≡ put_all (λ f b. patch b (samples_size * slot f) (samples_of f)) no_samples (magged g)
  unfolding samples_with
  samples_are = put_those has_mag (λ f b. patch b (samples_size * slot f) (samples_of f)) g no_samples

number_stays : (fs : List Kept) (m : Major) (n : ℕ) → m.number ≡ n → Every (λ f. major f ≡ n) fs → (major_from m fs).number ≡ n
unfolding put_all major_with into Every
number_stays [] m n e h = e
number_stays (f ∷ fs) m n e h = number_stays fs (major_with f m) n h.0 h.1

-- slots are below 16, and 54 samples make a block
below : (g : List Kept) → Every (λ f. slot f < slots) g
below g = in_every _ g (λ f i. omega arith)

all_blocks : (g : List Kept) → Every (Block slot slots (pos 0) samples_size samples_of) g
all_blocks g = in_every _ g (λ f i. record { below = omega arith; sized = length_build (sample (mag_bytes (packet f))) samples_size })

-- records of rising slots put into an empty major frame
module _ (g : List Kept) (r : Rising slot 0 g) where
  abbrev whole : ClosedMajor
  whole = record { frame = major_from no_major g; samples = samples_from no_samples g }

  -- the records with MAG
  abbrev ms : List Kept
  ms = magged g

  rm : Rising slot 0 ms
  rm = rising_those has_mag slot g 0 r

  empty : length no_samples ≡ major_samples
  empty = omega arith

  -- of one with MAG
  sampled : (f : Kept) → In f g → has_mag f ≡ true → Sampled f whole
  sampled f i e =
      let j = in_those has_mag g f i e in
      record {
        marked = rw (mags_are g) (marks_set slot ms 0 rm f j);
        ranged = rw (ranges_are g) (stand (singles slot slots 0 range_of) ms no_major.ranges 0 (below ms) rm refl f j);
        samples = λ k h.
            ap (λ s. get_or s (samples_size * slot f + k) (pos 0)) (samples_are g)
            ∙ stand (blocks slot slots (pos 0) samples_size samples_of k h) ms no_samples 0 (all_blocks ms) rm empty f j
            ∙ get_d_build (sample (mag_bytes (packet f))) samples_size k (pos 0) h;
      }

  slotted : (n : ℕ) → Every (λ f. major f ≡ n) g → (major_from no_major g).number ≡ n → (f : Kept) → In f g → Slotted f whole
  slotted n same e f i = record {
    number = e ∙ sym (every_in (λ f. major f ≡ n) g f same i);
    held = rw (slots_are g) (marks_set slot g 0 r f i);
    word = rw (words_are g) (stand (singles slot slots 0 word_of) g no_major.words 0 (below g) r refl f i);
    mag = sampled f i;
  }

  -- a slot that no record has, and one that no record with MAG has
  no_slot : (i : ℕ) → i < slots → Unused slot i g → NoSlot i whole
  no_slot i h n = record {
    unheld = rw (slots_are g) (marks_free slot g 0 r i n);
    word = rw (words_are g) (stays (singles slot slots 0 word_of) g no_major.words 0 i (below g) r refl h n ∙ get_or-replicate {A = ℕ} 16 i 0 0 h);
  }

  no_mag : (i : ℕ) → i < slots → Unused slot i ms → NoMag i whole
  no_mag i h n = record {
    unmarked = rw (mags_are g) (marks_free slot ms 0 rm i n);
    ranged = rw (ranges_are g) (stays (singles slot slots 0 range_of) ms no_major.ranges 0 i (below ms) rm refl h n ∙ get_or-replicate {A = ℕ} 16 i 0 0 h);
    samples = λ k j.
        ap (λ s. get_or s (samples_size * i + k) (pos 0)) (samples_are g)
        ∙ stays (blocks slot slots (pos 0) samples_size samples_of k j) ms no_samples 0 i (all_blocks ms) rm empty h n
        ∙ get_or-replicate {A = ℤ} major_samples (samples_size * i + k) (pos 0) (pos 0) (omega arith);
  }

  shaped : Shaped (major_from no_major g)
  shaped = record {
    ranges = rw (ranges_are g) (all_fit (singles slot slots 0 range_of) ms no_major.ranges 0 slots (λ b l i e. e) (omega arith) (below ms) (below ms) rm refl);
    words = rw (words_are g) (all_fit (singles slot slots 0 word_of) g no_major.words 0 slots (λ b l i e. e) (omega arith) (below g) (below g) r refl);
    mags = rw (mags_are g) (marks_below slot ms 0 rm slots (omega arith) (below ms));
  }

  size : length (samples_from no_samples g) ≡ major_samples
  size = rw (
    samples_are g,
    all_fit (blocks slot slots (pos 0) samples_size samples_of 0 (omega arith)) ms no_samples 0 slots (λ b l i e. e) (omega arith)
        (below ms) (all_blocks ms) rm empty,
  )

pub major_filled : (f : Kept) (fs : List Kept) → Linked Beside f fs → MajorFilled (f ∷ fs) (major_of (f ∷ fs))
unfolding major_of Rising Every
major_filled f fs l =
    let g = f ∷ fs in
    let r : Rising slot 0 g = (omega arith, rising_links (λ x. slot x) Beside (λ p f j. omega arith) fs f l) in
    let same = all_share major Beside (λ p x h. h.0) fs f l in
    let number : (major_from no_major g).number ≡ major f =
    unfold put_all in number_stays fs (major_with f no_major) (major f) (unfold major_with into in refl) same.1 in
    record {
      held = rw (slots_are g) (marks_count slot g 0 r);
      mags = rw (mags_are g) (marks_count slot (magged g) 0 (rm g r));
      shaped = shaped g r;
      size = size g r;
      own = in_every _ g (slotted g r (major f) same number);
      no_slot = no_slot g r;
      no_mag = no_mag g r;
    }
