-- The structs that cross to C, and what the calls hand back of them, as the laws of `lent` take them.
-- Assumes nothing.
use mathlib.Core.Path.{refl}
use mathlib.Core.List.{[], ◌∷◌}
use Rattle.lent.proofs.Structs.{Lent, Outcome}
use Rattle.shapes.specs.contracts.states.CState as State
use Rattle.shapes.proofs.states.CState.TheLaws as State'
use Rattle.shapes.specs.contracts.closed.CReport as Report
use Rattle.shapes.proofs.closed.CReport.TheLaws as Report'
use Rattle.shapes.specs.contracts.closed.CClosed as Closed
use Rattle.shapes.proofs.closed.CClosed.TheLaws as Closed'
use Rattle.shapes.specs.contracts.closed.CFed as Fed
use Rattle.shapes.proofs.closed.CFed.TheLaws as Fed'
use Rattle.shapes.specs.contracts.fields.CFields as Fields
use Rattle.shapes.proofs.fields.CFields.TheLaws as Fields'
use Rattle.shapes.specs.contracts.frames.CMajor as Major
use Rattle.shapes.proofs.frames.CMajor.TheLaws as Major'
use Rattle.calls.specs.contracts.stepping.CStepped as Stepped
use Rattle.calls.specs.contracts.stepping.CFinished as Finished
use Rattle.calls.specs.contracts.feeding.CFeeding as Feeding
use Rattle.calls.specs.contracts.contents.CContents as Contents

abbrev pub state : Lent
state = record { type = State.the_type; the_laws = State'.the_laws; the_copy = State'.the_copy; the_plain = State'.the_plain; lowers = State'.lowers }

abbrev pub report : Lent
report = record { type = Report.the_type; the_laws = Report'.the_laws; the_copy = Report'.the_copy; the_plain = Report'.the_plain; lowers = Report'.lowers }

abbrev pub closed : Lent
closed = record { type = Closed.the_type; the_laws = Closed'.the_laws; the_copy = Closed'.the_copy; the_plain = Closed'.the_plain; lowers = Closed'.lowers }

abbrev pub fed : Lent
fed = record { type = Fed.the_type; the_laws = Fed'.the_laws; the_copy = Fed'.the_copy; the_plain = Fed'.the_plain; lowers = Fed'.lowers }

abbrev pub fields : Lent
fields = record { type = Fields.the_type; the_laws = Fields'.the_laws; the_copy = Fields'.the_copy; the_plain = Fields'.the_plain; lowers = Fields'.lowers }

abbrev pub major : Lent
major = record { type = Major.the_type; the_laws = Major'.the_laws; the_copy = Major'.the_copy; the_plain = Major'.the_plain; lowers = Major'.lowers }

abbrev pub stepped : Outcome (state ∷ report ∷ [])
stepped = record {
  name = (Stepped.struct).name;
  D = (Stepped.struct).D;
  values = λ d. (d.answer, (d.state, (d.report, tt)));
  make = λ v. record { answer = v.0; state = v.1.0; report = v.1.1.0 };
  eta = λ d. refl;
  beta = λ v. refl;
  one = Stepped.the_propositions;
}

abbrev pub finished : Outcome (state ∷ closed ∷ [])
finished = record {
  name = (Finished.struct).name;
  D = (Finished.struct).D;
  values = λ d. (d.answer, (d.state, (d.closed, tt)));
  make = λ v. record { answer = v.0; state = v.1.0; closed = v.1.1.0 };
  eta = λ d. refl;
  beta = λ v. refl;
  one = Finished.the_propositions;
}

abbrev pub feeding : Outcome (state ∷ fed ∷ [])
feeding = record {
  name = (Feeding.struct).name;
  D = (Feeding.struct).D;
  values = λ d. (d.answer, (d.state, (d.fed, tt)));
  make = λ v. record { answer = v.0; state = v.1.0; fed = v.1.1.0 };
  eta = λ d. refl;
  beta = λ v. refl;
  one = Feeding.the_propositions;
}

abbrev pub contents : Outcome (fields ∷ [])
contents = record {
  name = (Contents.struct).name;
  D = (Contents.struct).D;
  values = λ d. (d.answer, (d.fields, tt));
  make = λ v. record { answer = v.0; fields = v.1.0 };
  eta = λ d. refl;
  beta = λ v. refl;
  one = Contents.the_propositions;
}
