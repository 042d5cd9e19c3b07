-- THE ROW of a list, and the page that is told.
use Rattle.listings.specs.declared.asking.Page.TheVariants as page
use Rattle.listings.specs.declared.asking.Subject.TheVariants as subject
use Rattle.listings.specs.Commands.{Asks, AsksOf}
use Rattle.listings.specs.Lines.{AreAccountLines, AreAppLines, AreGrainLines, AreGrantLines, IsOwnLine}
use Rattle.listings.specs.Terms.{Caller, Page, State, Step, Subject}

abbrev pub Lists : State → Caller → Subject → Step → Type 0
Lists s who subject.Own = Asks s who
Lists s who (subject.Accounts after) = Asks s who
Lists s who (subject.Apps after) = Asks s who
Lists s who (subject.Entered after) = Asks s who
Lists s who (subject.Given n after) = AsksOf s who n

-- the page has the lines of what is listed
abbrev pub IsPageOf : State → Caller → Subject → Page → Type 0
IsPageOf s who subject.Own (page.Accounts lines) = IsOwnLine s who lines
IsPageOf s who (subject.Accounts after) (page.Accounts lines) = AreAccountLines s.tables after.0 lines
IsPageOf s who (subject.Apps after) (page.Apps lines) = AreAppLines s.tables after.0 lines
IsPageOf s who (subject.Entered after) (page.Grains lines) = AreGrainLines s who after.0 lines
IsPageOf s who (subject.Given n after) (page.Grants lines) = AreGrantLines s who n after.0 lines
IsPageOf s who _ told = ⊥
