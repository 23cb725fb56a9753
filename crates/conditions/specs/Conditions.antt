-- The three conditions as one statement. Each line names a promise. Those of this crate stand beside this file, in the words of document
-- 01; the others stand in `Promises` of the crate that they are taken from. That every function ends and stays inside its slices is part
-- of its proof, and that contracts leave one outcome is shown by the laws of completeness in each crate.
use Rattle.record.specs.Promises.{DocumentNumbersFit, WrittenListsReadBack, WrittenBufferReadsBack, WrittenBufferKeepsTheRest, ReadRecordIsWrittenAgain}
use Rattle.examples.specs.Examples.{ExamplesHold}
use Rattle.live.specs.Promises.{RunKeepsTheRecord}
use Rattle.live_questions.specs.Promises.{RunAnswersAsTheRecord}
use Rattle.conditions.specs.Order.{OrderGivesOneNumber}
use Rattle.conditions.specs.Refusals.{BytesRefusedByNumber, ListsRefusedInOrder, ReadingRefusedInOrder, WritingRefusedInOrder, LengthRefusedInOrder, TablesRefusedByNumber, WritingOutRefusedInOrder, CallsRefusedInOrder, EachAcceptedIsGood, QuestionsRefusedInOrder}
use Rattle.conditions.specs.Answers.{EachSeenByTheRules, EachAgreedByTheRules}
use Rattle.conditions.specs.Adopted.{AnyGoodTableAnswers, RunContinuesAGoodTable}
use Rattle.conditions.specs.Honest.{HonestSeatsAreToldAlike, SeenEditsAreAgreed}
use Rattle.conditions.specs.EntryPoints.{EntryPoints}

-- Bad input of any kind is refused by document 01's numbers, in its order, and a refusal leaves tables and written buffers as they were.
-- That the buffer lent for a question stays is said with the questions' contracts, in `Fills`.
pub record Condition1 : Type 1 where
  pub one_number : OrderGivesOneNumber
  pub bytes : BytesRefusedByNumber
  pub lists : ListsRefusedInOrder
  pub reading : ReadingRefusedInOrder
  pub writing : WritingRefusedInOrder
  pub lengths : LengthRefusedInOrder
  pub tables : TablesRefusedByNumber
  pub writing-out : WritingOutRefusedInOrder
  pub calls : CallsRefusedInOrder
  pub questions : QuestionsRefusedInOrder
  pub accepted : EachAcceptedIsGood

-- Answers are those of the rules, neither fewer nor more; the live table answers as the record of the calls accepted; records read back
-- as written and are written again as read.
pub record Condition2 : Type 0 where
  pub seen : EachSeenByTheRules
  pub agreed : EachAgreedByTheRules
  pub examples : ExamplesHold
  pub runs : RunKeepsTheRecord
  pub run-answers : RunAnswersAsTheRecord
  pub any-table : AnyGoodTableAnswers
  pub any-run : RunContinuesAGoodTable
  pub numbers_fit : DocumentNumbersFit
  pub read_back : WrittenListsReadBack
  pub buffer-read-back : WrittenBufferReadsBack
  pub buffer-rest : WrittenBufferKeepsTheRest
  pub written-again : ReadRecordIsWrittenAgain

-- Honest seats agree, and what one of them saw is agreed in time.
pub record Condition3 : Type 0 where
  pub alike : HonestSeatsAreToldAlike
  pub in-time : SeenEditsAreAgreed

-- And what the conditions speak of is what the contracts of the entry points say, which ask nothing.
pub record Conditions : Type 2 where
  pub first : Condition1
  pub second : Condition2
  pub third : Condition3
  pub contracts : EntryPoints
