-- How each form is derived at each place where it may stand: written by tools/standpoints from the rows, and proved.
use Rattle.std.specs.Prelude.{true, false, List, [], ◌∷◌, Some, None}
use Rattle.vd_tokens.specs.declared.kinds.Kind.TheVariants as kind
use Rattle.vd_forms.specs.declared.form.Form.TheVariants as form
use Rattle.vd_shapes.specs.declared.terminals.TheConstants.{ARROW, AT_LEAST, BAR, BECOMES, BITS, BOX, CLOSE, COLON, COMMA, DOT, EQUAL, GIVES, GREATER, JOIN, LESS, LETTER, MINUS, NAME, NUMBER, OPEN, OVER, PLUS, POWER, QUOTED, SEMICOLON, TICK, TIMES, UNEQUAL, WORD_ABS, WORD_AFTER, WORD_ALL, WORD_AND, WORD_ARCHITECTURE, WORD_ARRAY, WORD_ASSERT, WORD_BEGIN, WORD_BODY, WORD_CASE, WORD_CONSTANT, WORD_DOWNTO, WORD_ELSE, WORD_ELSIF, WORD_END, WORD_ENTITY, WORD_EXIT, WORD_FOR, WORD_FUNCTION, WORD_GENERATE, WORD_GENERIC, WORD_IF, WORD_IN, WORD_INERTIAL, WORD_INOUT, WORD_IS, WORD_LIBRARY, WORD_LOOP, WORD_MAP, WORD_MOD, WORD_NAND, WORD_NEXT, WORD_NOR, WORD_NOT, WORD_NULL, WORD_OF, WORD_ON, WORD_OPEN, WORD_OR, WORD_OTHERS, WORD_OUT, WORD_PACKAGE, WORD_PORT, WORD_PROCESS, WORD_PURE, WORD_RANGE, WORD_RECORD, WORD_REM, WORD_REPORT, WORD_RETURN, WORD_ROL, WORD_ROR, WORD_SELECT, WORD_SEVERITY, WORD_SIGNAL, WORD_SLA, WORD_SLL, WORD_SRA, WORD_SRL, WORD_SUBTYPE, WORD_THEN, WORD_TO, WORD_TRANSPORT, WORD_TYPE, WORD_UNAFFECTED, WORD_UNTIL, WORD_USE, WORD_VARIABLE, WORD_WAIT, WORD_WHEN, WORD_WHILE, WORD_WITH, WORD_XNOR, WORD_XOR}
use Rattle.vd_derivations.specs.Rows.{done, rest, step, token, own, hole, each, Standpoint}
use Rattle.vd_derivations.specs.Laws.{FileRow}

abbrev pub standpoints : List Standpoint
standpoints =
    -- 0: unit
    record {
      level = 0;
      head = 153;
      tail = None;
      state = 0;
      rows = record { forms = form.DesignUnit ∷ []; up = false; round = false; places = 0 ∷ 1 ∷ 2 ∷ []; many = false; template = step 3 (hole 1 1 done (hole 2 2 done done)) done }
          ∷ [];
    }
    ∷
    -- 1: context
    record {
      level = 0;
      head = 154;
      tail = None;
      state = 0;
      rows = record { forms = form.ContextClause ∷ []; up = false; round = false; places = 0 ∷ []; many = true; template = step 4 (each 0 3 5 [] 6 done) done }
          ∷ [];
    }
    ∷
    -- 2: main
    record {
      level = 1;
      head = 160;
      tail = None;
      state = 0;
      rows = record { forms = form.PackageBody ∷ []; up = false; round = false; places = 0 ∷ 6 ∷ 7 ∷ 8 ∷ []; many = false; template = step 15 (token WORD_PACKAGE (step 79 (token WORD_BODY (hole 1 6 done (token WORD_IS (hole 2 7 done (token WORD_END (hole 3 8 done (token SEMICOLON done))))))) done)) done }
          ∷ record { forms = form.PackageDeclaration ∷ []; up = false; round = false; places = 0 ∷ 6 ∷ 9 ∷ 7 ∷ 10 ∷ []; many = false; template = step 15 (token WORD_PACKAGE (step 80 (hole 1 6 done (token WORD_IS (step 84 (hole 2 9 done (hole 3 7 done (token WORD_END (hole 4 10 done (token SEMICOLON done))))) done))) done)) done }
          ∷ record { forms = form.EntityDeclaration ∷ []; up = true; round = false; places = 4 ∷ []; many = false; template = step 13 (hole 0 4 done done) done }
          ∷ record { forms = form.ArchitectureBody ∷ []; up = true; round = false; places = 5 ∷ []; many = false; template = step 14 (hole 0 5 done done) done }
          ∷ [];
    }
    ∷
    -- 3: clause
    record {
      level = 1;
      head = 156;
      tail = None;
      state = 0;
      rows = record { forms = form.LibraryClause ∷ []; up = true; round = false; places = 11 ∷ []; many = false; template = step 7 (hole 0 11 done done) done }
          ∷ record { forms = form.UseClause ∷ []; up = true; round = false; places = 12 ∷ []; many = false; template = step 8 (hole 0 12 done done) done }
          ∷ [];
    }
    ∷
    -- 4: entity
    record {
      level = 0;
      head = 168;
      tail = None;
      state = 0;
      rows = record { forms = form.EntityDeclaration ∷ []; up = false; round = false; places = 0 ∷ 6 ∷ 13 ∷ 14 ∷ 15 ∷ []; many = false; template = step 29 (token WORD_ENTITY (hole 1 6 done (token WORD_IS (hole 2 13 done (hole 3 14 done (token WORD_END (hole 4 15 done (token SEMICOLON done)))))))) done }
          ∷ [];
    }
    ∷
    -- 5: arch
    record {
      level = 0;
      head = 191;
      tail = None;
      state = 0;
      rows = record { forms = form.ArchitectureBody ∷ []; up = false; round = false; places = 0 ∷ 6 ∷ 6 ∷ 7 ∷ 16 ∷ 17 ∷ []; many = false; template = step 69 (token WORD_ARCHITECTURE (hole 1 6 done (token WORD_OF (hole 2 6 done (token WORD_IS (hole 3 7 done (token WORD_BEGIN (hole 4 16 done (token WORD_END (hole 5 17 done (token SEMICOLON done))))))))))) done }
          ∷ [];
    }
    ∷
    -- 6: NAME
    record {
      level = 0;
      head = NAME;
      tail = None;
      state = 0;
      rows = record { forms = form.Identifier ∷ []; up = false; round = false; places = 0 ∷ []; many = false; template = own kind.Name done }
          ∷ [];
    }
    ∷
    -- 7: declpart
    record {
      level = 0;
      head = 192;
      tail = None;
      state = 0;
      rows = record { forms = form.DeclarativePart ∷ []; up = false; round = false; places = 0 ∷ []; many = true; template = step 70 (each 0 18 71 [] 72 done) done }
          ∷ [];
    }
    ∷
    -- 8: bodyclosing
    record {
      level = 0;
      head = 199;
      tail = None;
      state = 21;
      rows = record { forms = form.Closing ∷ []; up = false; round = false; places = 0 ∷ 19 ∷ 20 ∷ []; many = false; template = step 81 (hole 1 19 done (hole 2 20 done done)) done }
          ∷ [];
    }
    ∷
    -- 9: nogens
    record {
      level = 0;
      head = 202;
      tail = None;
      state = 0;
      rows = record { forms = form.Absent ∷ []; up = false; round = false; places = 0 ∷ []; many = false; template = step 85 done done }
          ∷ [];
    }
    ∷
    -- 10: packclosing
    record {
      level = 0;
      head = 203;
      tail = None;
      state = 20;
      rows = record { forms = form.Closing ∷ []; up = false; round = false; places = 0 ∷ 21 ∷ 20 ∷ []; many = false; template = step 86 (hole 1 21 done (hole 2 20 done done)) done }
          ∷ [];
    }
    ∷
    -- 11: lib
    record {
      level = 0;
      head = 157;
      tail = None;
      state = 0;
      rows = record { forms = form.LibraryClause ∷ []; up = false; round = false; places = 0 ∷ 6 ∷ []; many = true; template = step 9 (token WORD_LIBRARY (step 16 (hole 1 6 done (each 1 6 17 (COMMA ∷ []) 18 done)) (token SEMICOLON done))) done }
          ∷ [];
    }
    ∷
    -- 12: use
    record {
      level = 0;
      head = 158;
      tail = None;
      state = 0;
      rows = record { forms = form.UseClause ∷ []; up = false; round = false; places = 0 ∷ 22 ∷ []; many = true; template = step 10 (token WORD_USE (hole 1 22 done (each 1 22 11 (COMMA ∷ []) 12 (token SEMICOLON done)))) done }
          ∷ [];
    }
    ∷
    -- 13: gensend
    record {
      level = 0;
      head = 169;
      tail = None;
      state = 0;
      rows = record { forms = form.GenericClause ∷ []; up = false; round = false; places = 0 ∷ 23 ∷ []; many = true; template = step 30 (step 49 (token WORD_GENERIC (token OPEN (hole 1 23 done (each 1 23 50 (SEMICOLON ∷ []) 51 (token CLOSE done))))) (token SEMICOLON done)) done }
          ∷ record { forms = form.Absent ∷ []; up = false; round = false; places = 0 ∷ []; many = false; template = step 31 done done }
          ∷ [];
    }
    ∷
    -- 14: portsend
    record {
      level = 0;
      head = 170;
      tail = None;
      state = 0;
      rows = record { forms = form.PortClause ∷ []; up = false; round = false; places = 0 ∷ 24 ∷ []; many = true; template = step 32 (token WORD_PORT (token OPEN (hole 1 24 done (each 1 24 37 (SEMICOLON ∷ []) 38 (token CLOSE (token SEMICOLON done)))))) done }
          ∷ record { forms = form.Absent ∷ []; up = false; round = false; places = 0 ∷ []; many = false; template = step 33 done done }
          ∷ [];
    }
    ∷
    -- 15: entclosing
    record {
      level = 0;
      head = 171;
      tail = None;
      state = 18;
      rows = record { forms = form.Closing ∷ []; up = false; round = false; places = 0 ∷ 25 ∷ 20 ∷ []; many = false; template = step 34 (hole 1 25 done (hole 2 20 done done)) done }
          ∷ [];
    }
    ∷
    -- 16: cpart
    record {
      level = 0;
      head = 194;
      tail = None;
      state = 0;
      rows = record { forms = form.StatementPart ∷ []; up = false; round = false; places = 0 ∷ []; many = true; template = step 73 (each 0 26 74 [] 75 done) done }
          ∷ [];
    }
    ∷
    -- 17: archclosing
    record {
      level = 0;
      head = 196;
      tail = None;
      state = 19;
      rows = record { forms = form.Closing ∷ []; up = false; round = false; places = 0 ∷ 27 ∷ 20 ∷ []; many = false; template = step 76 (hole 1 27 done (hole 2 20 done done)) done }
          ∷ [];
    }
    ∷
    -- 18: decl
    record {
      level = 1;
      head = 207;
      tail = None;
      state = 0;
      rows = record { forms = form.ConstantDeclaration ∷ []; up = false; round = false; places = 0 ∷ 28 ∷ 29 ∷ 30 ∷ []; many = false; template = step 92 (token WORD_CONSTANT (hole 1 28 done (token COLON (hole 2 29 done (token BECOMES (hole 3 30 done (token SEMICOLON done))))))) done }
          ∷ record { forms = form.SignalDeclaration ∷ []; up = false; round = false; places = 0 ∷ 28 ∷ 29 ∷ 31 ∷ []; many = false; template = step 94 (token WORD_SIGNAL (hole 1 28 done (token COLON (hole 2 29 done (hole 3 31 done (token SEMICOLON done)))))) done }
          ∷ record { forms = form.VariableDeclaration ∷ []; up = false; round = false; places = 0 ∷ 28 ∷ 29 ∷ 31 ∷ []; many = false; template = step 95 (token WORD_VARIABLE (hole 1 28 done (token COLON (hole 2 29 done (hole 3 31 done (token SEMICOLON done)))))) done }
          ∷ record { forms = form.TypeDeclaration ∷ []; up = false; round = false; places = 0 ∷ 6 ∷ 32 ∷ []; many = false; template = step 96 (token WORD_TYPE (hole 1 6 done (token WORD_IS (hole 2 32 done (token SEMICOLON done))))) done }
          ∷ record { forms = form.SubtypeDeclaration ∷ []; up = false; round = false; places = 0 ∷ 6 ∷ 29 ∷ []; many = false; template = step 97 (token WORD_SUBTYPE (hole 1 6 done (token WORD_IS (hole 2 29 done (token SEMICOLON done))))) done }
          ∷ record { forms = form.FunctionDeclaration ∷ []; up = false; round = false; places = 0 ∷ 33 ∷ 34 ∷ 35 ∷ 36 ∷ 37 ∷ 22 ∷ []; many = false; template = step 98 (hole 1 33 done (token WORD_FUNCTION (hole 2 34 done (step 120 (hole 3 35 done (hole 4 36 done (hole 5 37 done (token WORD_RETURN (hole 6 22 done (step 125 (token SEMICOLON done) done)))))) done)))) done }
          ∷ record { forms = form.FunctionBody ∷ []; up = false; round = false; places = 0 ∷ 33 ∷ 34 ∷ 35 ∷ 36 ∷ 37 ∷ 22 ∷ 7 ∷ 38 ∷ 39 ∷ []; many = false; template = step 98 (hole 1 33 done (token WORD_FUNCTION (hole 2 34 done (step 120 (hole 3 35 done (hole 4 36 done (hole 5 37 done (token WORD_RETURN (hole 6 22 done (step 126 (token WORD_IS (hole 7 7 done (token WORD_BEGIN (hole 8 38 done (token WORD_END (hole 9 39 done (token SEMICOLON done))))))) done)))))) done)))) done }
          ∷ record { forms = form.UseClause ∷ []; up = true; round = false; places = 12 ∷ []; many = false; template = step 93 (hole 0 12 done done) done }
          ∷ [];
    }
    ∷
    -- 19: bodyword
    record {
      level = 0;
      head = 200;
      tail = None;
      state = 21;
      rows = record { forms = form.ClosingWord ∷ []; up = false; round = false; places = 0 ∷ []; many = false; template = step 82 (token WORD_PACKAGE (token WORD_BODY done)) done }
          ∷ record { forms = form.Absent ∷ []; up = false; round = false; places = 0 ∷ []; many = false; template = step 83 done done }
          ∷ [];
    }
    ∷
    -- 20: closingname
    record {
      level = 0;
      head = 164;
      tail = None;
      state = 0;
      rows = record { forms = form.Identifier ∷ []; up = false; round = false; places = 0 ∷ []; many = false; template = step 20 (own kind.Name done) done }
          ∷ record { forms = form.Absent ∷ []; up = false; round = false; places = 0 ∷ []; many = false; template = step 21 done done }
          ∷ [];
    }
    ∷
    -- 21: packword
    record {
      level = 0;
      head = 204;
      tail = None;
      state = 20;
      rows = record { forms = form.ClosingWord ∷ []; up = false; round = false; places = 0 ∷ []; many = false; template = step 87 (token WORD_PACKAGE done) done }
          ∷ record { forms = form.Absent ∷ []; up = false; round = false; places = 0 ∷ []; many = false; template = step 88 done done }
          ∷ [];
    }
    ∷
    -- 22: sname
    record {
      level = 0;
      head = 165;
      tail = None;
      state = 0;
      rows = record { forms = form.SelectedName ∷ []; up = false; round = false; places = 0 ∷ 6 ∷ []; many = true; template = step 22 (hole 1 6 done (each 1 40 23 (DOT ∷ []) 24 done)) done }
          ∷ [];
    }
    ∷
    -- 23: gen
    record {
      level = 0;
      head = 181;
      tail = None;
      state = 0;
      rows = record { forms = form.GenericConstant ∷ []; up = false; round = false; places = 0 ∷ 41 ∷ 28 ∷ 42 ∷ 29 ∷ 31 ∷ []; many = false; template = step 52 (hole 1 41 done (hole 2 28 done (token COLON (hole 3 42 done (hole 4 29 done (hole 5 31 done done)))))) done }
          ∷ [];
    }
    ∷
    -- 24: port
    record {
      level = 0;
      head = 174;
      tail = None;
      state = 0;
      rows = record { forms = form.PortDeclaration ∷ []; up = false; round = false; places = 0 ∷ 43 ∷ 28 ∷ 44 ∷ 29 ∷ 31 ∷ []; many = false; template = step 39 (hole 1 43 done (hole 2 28 done (token COLON (step 42 (hole 3 44 done (hole 4 29 done (hole 5 31 done done))) done)))) done }
          ∷ [];
    }
    ∷
    -- 25: entword
    record {
      level = 0;
      head = 172;
      tail = None;
      state = 18;
      rows = record { forms = form.ClosingWord ∷ []; up = false; round = false; places = 0 ∷ []; many = false; template = step 35 (token WORD_ENTITY done) done }
          ∷ record { forms = form.Absent ∷ []; up = false; round = false; places = 0 ∷ []; many = false; template = step 36 done done }
          ∷ [];
    }
    ∷
    -- 26: cstmt
    record {
      level = 2;
      head = 265;
      tail = None;
      state = 0;
      rows = record { forms = form.ConcurrentAssignment ∷ []; up = false; round = false; places = 0 ∷ 45 ∷ 46 ∷ 47 ∷ []; many = false; template = hole 1 45 (step 212 (token ARROW (hole 2 46 done (hole 3 47 done (token SEMICOLON done)))) done) done }
          ∷ record { forms = form.LabelledConcurrent ∷ []; up = false; round = false; places = 0 ∷ 6 ∷ 48 ∷ []; many = false; template = step 203 (hole 1 6 done (step 205 (token COLON (step 207 (hole 2 48 done done) done)) done)) done }
          ∷ record { forms = form.AssertStatement ∷ form.ProcessStatement ∷ form.SelectedSignalAssignment ∷ []; up = true; round = false; places = 49 ∷ []; many = false; template = step 204 (hole 0 49 done done) done }
          ∷ [];
    }
    ∷
    -- 27: archword
    record {
      level = 0;
      head = 197;
      tail = None;
      state = 19;
      rows = record { forms = form.ClosingWord ∷ []; up = false; round = false; places = 0 ∷ []; many = false; template = step 77 (token WORD_ARCHITECTURE done) done }
          ∷ record { forms = form.Absent ∷ []; up = false; round = false; places = 0 ∷ []; many = false; template = step 78 done done }
          ∷ [];
    }
    ∷
    -- 28: idlist
    record {
      level = 0;
      head = 163;
      tail = None;
      state = 0;
      rows = record { forms = form.IdentifierList ∷ []; up = false; round = false; places = 0 ∷ 6 ∷ []; many = true; template = step 19 (step 16 (hole 1 6 done (each 1 6 17 (COMMA ∷ []) 18 done)) done) done }
          ∷ [];
    }
    ∷
    -- 29: subty
    record {
      level = 0;
      head = 189;
      tail = None;
      state = 0;
      rows = record { forms = form.SubtypeIndication ∷ []; up = false; round = false; places = 0 ∷ 22 ∷ 50 ∷ []; many = false; template = step 65 (hole 1 22 done (hole 2 50 done done)) done }
          ∷ [];
    }
    ∷
    -- 30: expr
    record {
      level = 2;
      head = 300;
      tail = None;
      state = 0;
      rows = record { forms = form.And ∷ []; up = false; round = false; places = 0 ∷ 51 ∷ 52 ∷ []; many = false; template = hole 1 51 (step 276 (step 279 (token WORD_AND (hole 2 52 done done)) (step 278 done done)) done) done }
          ∷ record { forms = form.Or ∷ []; up = false; round = false; places = 0 ∷ 53 ∷ 52 ∷ []; many = false; template = hole 1 53 (step 280 (step 283 (token WORD_OR (hole 2 52 done done)) (step 282 done done)) done) done }
          ∷ record { forms = form.Xor ∷ []; up = false; round = false; places = 0 ∷ 54 ∷ 52 ∷ []; many = false; template = hole 1 54 (step 284 (step 287 (token WORD_XOR (hole 2 52 done done)) (step 286 done done)) done) done }
          ∷ record { forms = form.Xnor ∷ []; up = false; round = false; places = 0 ∷ 55 ∷ 52 ∷ []; many = false; template = hole 1 55 (step 288 (step 291 (token WORD_XNOR (hole 2 52 done done)) (step 290 done done)) done) done }
          ∷ record { forms = form.Add ∷ []; up = false; round = false; places = 0 ∷ 56 ∷ 57 ∷ []; many = false; template = step 268 (step 292 (step 300 (hole 1 56 (step 312 (step 314 (token PLUS (hole 2 57 done done)) (step 313 done done)) done) (step 307 done done)) (step 299 done done)) (step 275 done done)) done }
          ∷ record { forms = form.Subtract ∷ []; up = false; round = false; places = 0 ∷ 56 ∷ 57 ∷ []; many = false; template = step 268 (step 292 (step 300 (hole 1 56 (step 312 (step 315 (token MINUS (hole 2 57 done done)) (step 313 done done)) done) (step 307 done done)) (step 299 done done)) (step 275 done done)) done }
          ∷ record { forms = form.Concatenate ∷ []; up = false; round = false; places = 0 ∷ 56 ∷ 57 ∷ []; many = false; template = step 268 (step 292 (step 300 (hole 1 56 (step 312 (step 316 (token JOIN (hole 2 57 done done)) (step 313 done done)) done) (step 307 done done)) (step 299 done done)) (step 275 done done)) done }
          ∷ record { forms = form.Multiply ∷ []; up = false; round = false; places = 0 ∷ 58 ∷ 59 ∷ []; many = false; template = step 268 (step 292 (step 300 (step 308 (step 311 (hole 1 58 (step 318 (step 320 (token TIMES (hole 2 59 done done)) (step 319 done done)) done) done) (step 313 done done)) (step 307 done done)) (step 299 done done)) (step 275 done done)) done }
          ∷ record { forms = form.Divide ∷ []; up = false; round = false; places = 0 ∷ 58 ∷ 59 ∷ []; many = false; template = step 268 (step 292 (step 300 (step 308 (step 311 (hole 1 58 (step 318 (step 321 (token OVER (hole 2 59 done done)) (step 319 done done)) done) done) (step 313 done done)) (step 307 done done)) (step 299 done done)) (step 275 done done)) done }
          ∷ record { forms = form.Modulo ∷ []; up = false; round = false; places = 0 ∷ 58 ∷ 59 ∷ []; many = false; template = step 268 (step 292 (step 300 (step 308 (step 311 (hole 1 58 (step 318 (step 322 (token WORD_MOD (hole 2 59 done done)) (step 319 done done)) done) done) (step 313 done done)) (step 307 done done)) (step 299 done done)) (step 275 done done)) done }
          ∷ record { forms = form.Remainder ∷ []; up = false; round = false; places = 0 ∷ 58 ∷ 59 ∷ []; many = false; template = step 268 (step 292 (step 300 (step 308 (step 311 (hole 1 58 (step 318 (step 323 (token WORD_REM (hole 2 59 done done)) (step 319 done done)) done) done) (step 313 done done)) (step 307 done done)) (step 299 done done)) (step 275 done done)) done }
          ∷ record { forms = form.Nand ∷ []; up = false; round = false; places = 0 ∷ 52 ∷ 52 ∷ []; many = false; template = step 268 (hole 1 52 done (step 273 (token WORD_NAND (hole 2 52 done done)) done)) done }
          ∷ record { forms = form.Nor ∷ []; up = false; round = false; places = 0 ∷ 52 ∷ 52 ∷ []; many = false; template = step 268 (hole 1 52 done (step 274 (token WORD_NOR (hole 2 52 done done)) done)) done }
          ∷ record { forms = form.Equal ∷ []; up = false; round = false; places = 0 ∷ 60 ∷ 60 ∷ []; many = false; template = step 268 (step 292 (hole 1 60 done (step 293 (token EQUAL (hole 2 60 done done)) done)) (step 275 done done)) done }
          ∷ record { forms = form.Unequal ∷ []; up = false; round = false; places = 0 ∷ 60 ∷ 60 ∷ []; many = false; template = step 268 (step 292 (hole 1 60 done (step 294 (token UNEQUAL (hole 2 60 done done)) done)) (step 275 done done)) done }
          ∷ record { forms = form.Less ∷ []; up = false; round = false; places = 0 ∷ 60 ∷ 60 ∷ []; many = false; template = step 268 (step 292 (hole 1 60 done (step 295 (token LESS (hole 2 60 done done)) done)) (step 275 done done)) done }
          ∷ record { forms = form.AtMost ∷ []; up = false; round = false; places = 0 ∷ 60 ∷ 60 ∷ []; many = false; template = step 268 (step 292 (hole 1 60 done (step 296 (token ARROW (hole 2 60 done done)) done)) (step 275 done done)) done }
          ∷ record { forms = form.Greater ∷ []; up = false; round = false; places = 0 ∷ 60 ∷ 60 ∷ []; many = false; template = step 268 (step 292 (hole 1 60 done (step 297 (token GREATER (hole 2 60 done done)) done)) (step 275 done done)) done }
          ∷ record { forms = form.AtLeast ∷ []; up = false; round = false; places = 0 ∷ 60 ∷ 60 ∷ []; many = false; template = step 268 (step 292 (hole 1 60 done (step 298 (token AT_LEAST (hole 2 60 done done)) done)) (step 275 done done)) done }
          ∷ record { forms = form.ShiftLeftLogical ∷ []; up = false; round = false; places = 0 ∷ 61 ∷ 61 ∷ []; many = false; template = step 268 (step 292 (step 300 (hole 1 61 done (step 301 (token WORD_SLL (hole 2 61 done done)) done)) (step 299 done done)) (step 275 done done)) done }
          ∷ record { forms = form.ShiftRightLogical ∷ []; up = false; round = false; places = 0 ∷ 61 ∷ 61 ∷ []; many = false; template = step 268 (step 292 (step 300 (hole 1 61 done (step 302 (token WORD_SRL (hole 2 61 done done)) done)) (step 299 done done)) (step 275 done done)) done }
          ∷ record { forms = form.ShiftLeftArithmetic ∷ []; up = false; round = false; places = 0 ∷ 61 ∷ 61 ∷ []; many = false; template = step 268 (step 292 (step 300 (hole 1 61 done (step 303 (token WORD_SLA (hole 2 61 done done)) done)) (step 299 done done)) (step 275 done done)) done }
          ∷ record { forms = form.ShiftRightArithmetic ∷ []; up = false; round = false; places = 0 ∷ 61 ∷ 61 ∷ []; many = false; template = step 268 (step 292 (step 300 (hole 1 61 done (step 304 (token WORD_SRA (hole 2 61 done done)) done)) (step 299 done done)) (step 275 done done)) done }
          ∷ record { forms = form.RotateLeft ∷ []; up = false; round = false; places = 0 ∷ 61 ∷ 61 ∷ []; many = false; template = step 268 (step 292 (step 300 (hole 1 61 done (step 305 (token WORD_ROL (hole 2 61 done done)) done)) (step 299 done done)) (step 275 done done)) done }
          ∷ record { forms = form.RotateRight ∷ []; up = false; round = false; places = 0 ∷ 61 ∷ 61 ∷ []; many = false; template = step 268 (step 292 (step 300 (hole 1 61 done (step 306 (token WORD_ROR (hole 2 61 done done)) done)) (step 299 done done)) (step 275 done done)) done }
          ∷ record { forms = form.Power ∷ []; up = false; round = false; places = 0 ∷ 62 ∷ 62 ∷ []; many = false; template = step 268 (step 292 (step 300 (step 308 (step 311 (step 317 (step 324 (hole 1 62 done (step 327 (token POWER (hole 2 62 done done)) done)) (step 319 done done)) done) (step 313 done done)) (step 307 done done)) (step 299 done done)) (step 275 done done)) done }
          ∷ record { forms = form.Identity ∷ []; up = false; round = false; places = 0 ∷ 57 ∷ []; many = false; template = step 268 (step 292 (step 300 (step 308 (step 309 (token PLUS (hole 1 57 done done)) (step 313 done done)) (step 307 done done)) (step 299 done done)) (step 275 done done)) done }
          ∷ record { forms = form.Negation ∷ []; up = false; round = false; places = 0 ∷ 57 ∷ []; many = false; template = step 268 (step 292 (step 300 (step 308 (step 310 (token MINUS (hole 1 57 done done)) (step 313 done done)) (step 307 done done)) (step 299 done done)) (step 275 done done)) done }
          ∷ record { forms = form.Absolute ∷ []; up = false; round = false; places = 0 ∷ 62 ∷ []; many = false; template = step 268 (step 292 (step 300 (step 308 (step 311 (step 317 (step 325 (token WORD_ABS (hole 1 62 done done)) (step 319 done done)) done) (step 313 done done)) (step 307 done done)) (step 299 done done)) (step 275 done done)) done }
          ∷ record { forms = form.Not ∷ []; up = false; round = false; places = 0 ∷ 62 ∷ []; many = false; template = step 268 (step 292 (step 300 (step 308 (step 311 (step 317 (step 326 (token WORD_NOT (hole 1 62 done done)) (step 319 done done)) done) (step 313 done done)) (step 307 done done)) (step 299 done done)) (step 275 done done)) done }
          ∷ record { forms = form.Aggregate ∷ form.Bits ∷ form.Letter ∷ form.Name ∷ form.Number ∷ form.OperatorName ∷ form.PhysicalLiteral ∷ form.Quoted ∷ []; up = true; round = false; places = 63 ∷ []; many = false; template = step 268 (step 292 (step 300 (step 308 (step 311 (step 317 (step 324 (hole 0 63 done (step 328 done done)) (step 319 done done)) done) (step 313 done done)) (step 307 done done)) (step 299 done done)) (step 275 done done)) done }
          ∷ [];
    }
    ∷
    -- 31: default
    record {
      level = 3;
      head = 178;
      tail = None;
      state = 8;
      rows = record { forms = form.Absent ∷ []; up = false; round = false; places = 0 ∷ []; many = false; template = step 48 done done }
          ∷ record { forms = form.Absolute ∷ form.Add ∷ form.Aggregate ∷ form.And ∷ form.AtLeast ∷ form.AtMost ∷ form.Bits ∷ form.Concatenate ∷ form.Divide ∷ form.Equal ∷ form.Greater ∷ form.Identity ∷ form.Less ∷ form.Letter ∷ form.Modulo ∷ form.Multiply ∷ form.Name ∷ form.Nand ∷ form.Negation ∷ form.Nor ∷ form.Not ∷ form.Number ∷ form.OperatorName ∷ form.Or ∷ form.PhysicalLiteral ∷ form.Power ∷ form.Quoted ∷ form.Remainder ∷ form.RotateLeft ∷ form.RotateRight ∷ form.ShiftLeftArithmetic ∷ form.ShiftLeftLogical ∷ form.ShiftRightArithmetic ∷ form.ShiftRightLogical ∷ form.Subtract ∷ form.Unequal ∷ form.Xnor ∷ form.Xor ∷ []; up = true; round = false; places = 30 ∷ []; many = false; template = step 47 (token BECOMES (hole 0 30 done done)) done }
          ∷ [];
    }
    ∷
    -- 32: tdef
    record {
      level = 0;
      head = 208;
      tail = None;
      state = 0;
      rows = record { forms = form.EnumerationType ∷ []; up = false; round = false; places = 0 ∷ 64 ∷ []; many = true; template = step 99 (token OPEN (hole 1 64 done (each 1 64 102 (COMMA ∷ []) 103 (token CLOSE done)))) done }
          ∷ record { forms = form.ArrayType ∷ []; up = false; round = false; places = 0 ∷ 65 ∷ 29 ∷ []; many = false; template = step 100 (token WORD_ARRAY (token OPEN (hole 1 65 done (token CLOSE (token WORD_OF (hole 2 29 done done)))))) done }
          ∷ record { forms = form.RecordType ∷ []; up = false; round = false; places = 0 ∷ 66 ∷ 20 ∷ []; many = false; template = step 101 (token WORD_RECORD (hole 1 66 done (token WORD_END (token WORD_RECORD (hole 2 20 done done))))) done }
          ∷ [];
    }
    ∷
    -- 33: pureword
    record {
      level = 0;
      head = 184;
      tail = None;
      state = 0;
      rows = record { forms = form.PureWord ∷ []; up = false; round = false; places = 0 ∷ []; many = false; template = step 57 (token WORD_PURE done) done }
          ∷ record { forms = form.Absent ∷ []; up = false; round = false; places = 0 ∷ []; many = false; template = step 58 done done }
          ∷ [];
    }
    ∷
    -- 34: desig
    record {
      level = 0;
      head = 188;
      tail = None;
      state = 0;
      rows = record { forms = form.Identifier ∷ []; up = false; round = false; places = 0 ∷ []; many = false; template = step 63 (own kind.Name done) done }
          ∷ record { forms = form.Quoted ∷ []; up = false; round = false; places = 0 ∷ []; many = false; template = step 64 (own kind.Quoted done) done }
          ∷ [];
    }
    ∷
    -- 35: fngens
    record {
      level = 0;
      head = 220;
      tail = None;
      state = 0;
      rows = record { forms = form.Absent ∷ []; up = false; round = false; places = 0 ∷ []; many = false; template = step 121 done done }
          ∷ [];
    }
    ∷
    -- 36: parword
    record {
      level = 0;
      head = 221;
      tail = None;
      state = 0;
      rows = record { forms = form.Absent ∷ []; up = false; round = false; places = 0 ∷ []; many = false; template = step 122 done done }
          ∷ [];
    }
    ∷
    -- 37: fnparams
    record {
      level = 1;
      head = 222;
      tail = None;
      state = 0;
      rows = record { forms = form.Absent ∷ []; up = false; round = false; places = 0 ∷ []; many = false; template = step 124 done done }
          ∷ record { forms = form.ParameterList ∷ []; up = true; round = false; places = 68 ∷ []; many = false; template = step 123 (hole 0 68 done done) done }
          ∷ [];
    }
    ∷
    -- 38: spart
    record {
      level = 0;
      head = 227;
      tail = None;
      state = 0;
      rows = record { forms = form.Statements ∷ []; up = false; round = false; places = 0 ∷ []; many = true; template = step 132 (each 0 69 133 [] 134 done) done }
          ∷ [];
    }
    ∷
    -- 39: fnclosing
    record {
      level = 0;
      head = 224;
      tail = None;
      state = 0;
      rows = record { forms = form.FunctionClosing ∷ []; up = false; round = false; places = 0 ∷ 70 ∷ 71 ∷ []; many = false; template = step 127 (hole 1 70 done (hole 2 71 done done)) done }
          ∷ [];
    }
    ∷
    -- 40: suffix
    record {
      level = 0;
      head = 167;
      tail = None;
      state = 0;
      rows = record { forms = form.Identifier ∷ []; up = false; round = false; places = 0 ∷ []; many = false; template = step 25 (own kind.Name done) done }
          ∷ record { forms = form.Letter ∷ []; up = false; round = false; places = 0 ∷ []; many = false; template = step 26 (own kind.Letter done) done }
          ∷ record { forms = form.Quoted ∷ []; up = false; round = false; places = 0 ∷ []; many = false; template = step 27 (own kind.Quoted done) done }
          ∷ record { forms = form.All ∷ []; up = false; round = false; places = 0 ∷ []; many = false; template = step 28 (token WORD_ALL done) done }
          ∷ [];
    }
    ∷
    -- 41: constword
    record {
      level = 0;
      head = 182;
      tail = None;
      state = 0;
      rows = record { forms = form.ConstantWord ∷ []; up = false; round = false; places = 0 ∷ []; many = false; template = step 53 (token WORD_CONSTANT done) done }
          ∷ record { forms = form.Absent ∷ []; up = false; round = false; places = 0 ∷ []; many = false; template = step 54 done done }
          ∷ [];
    }
    ∷
    -- 42: inword
    record {
      level = 0;
      head = 183;
      tail = None;
      state = 0;
      rows = record { forms = form.In ∷ []; up = false; round = false; places = 0 ∷ []; many = false; template = step 55 (token WORD_IN done) done }
          ∷ record { forms = form.Absent ∷ []; up = false; round = false; places = 0 ∷ []; many = false; template = step 56 done done }
          ∷ [];
    }
    ∷
    -- 43: sigword
    record {
      level = 0;
      head = 175;
      tail = None;
      state = 0;
      rows = record { forms = form.SignalWord ∷ []; up = false; round = false; places = 0 ∷ []; many = false; template = step 40 (token WORD_SIGNAL done) done }
          ∷ record { forms = form.Absent ∷ []; up = false; round = false; places = 0 ∷ []; many = false; template = step 41 done done }
          ∷ [];
    }
    ∷
    -- 44: mode
    record {
      level = 0;
      head = 177;
      tail = None;
      state = 0;
      rows = record { forms = form.In ∷ []; up = false; round = false; places = 0 ∷ []; many = false; template = step 43 (token WORD_IN done) done }
          ∷ record { forms = form.Out ∷ []; up = false; round = false; places = 0 ∷ []; many = false; template = step 44 (token WORD_OUT done) done }
          ∷ record { forms = form.InOut ∷ []; up = false; round = false; places = 0 ∷ []; many = false; template = step 45 (token WORD_INOUT done) done }
          ∷ record { forms = form.Absent ∷ []; up = false; round = false; places = 0 ∷ []; many = false; template = step 46 done done }
          ∷ [];
    }
    ∷
    -- 45: cstmt_name
    record {
      level = 0;
      head = 265;
      tail = Some 269;
      state = 0;
      rows = record { forms = form.Name ∷ []; up = false; round = false; places = 0 ∷ 6 ∷ []; many = true; template = step 203 (hole 1 6 done (step 206 (step 142 (each 1 73 245 [] 246 done) rest) done)) done }
          ∷ [];
    }
    ∷
    -- 46: delay
    record {
      level = 0;
      head = 235;
      tail = None;
      state = 0;
      rows = record { forms = form.Transport ∷ []; up = false; round = false; places = 0 ∷ []; many = false; template = step 145 (token WORD_TRANSPORT done) done }
          ∷ record { forms = form.Inertial ∷ []; up = false; round = false; places = 0 ∷ []; many = false; template = step 146 (token WORD_INERTIAL done) done }
          ∷ record { forms = form.Absent ∷ []; up = false; round = false; places = 0 ∷ []; many = false; template = step 147 done done }
          ∷ [];
    }
    ∷
    -- 47: cw
    record {
      level = 4;
      head = 239;
      tail = None;
      state = 0;
      rows = record { forms = form.ConditionalWaveform ∷ []; up = false; round = false; places = 0 ∷ 74 ∷ 30 ∷ 47 ∷ []; many = false; template = step 153 (hole 1 74 done (step 154 (token WORD_WHEN (hole 2 30 done (step 156 (token WORD_ELSE (hole 3 47 done done)) done))) done)) done }
          ∷ record { forms = form.GuardedWaveform ∷ []; up = false; round = false; places = 0 ∷ 74 ∷ 30 ∷ []; many = false; template = step 153 (hole 1 74 done (step 154 (token WORD_WHEN (hole 2 30 done (step 157 done done))) done)) done }
          ∷ record { forms = form.Absolute ∷ form.Add ∷ form.Aggregate ∷ form.And ∷ form.AtLeast ∷ form.AtMost ∷ form.Bits ∷ form.Concatenate ∷ form.DelayedWaveform ∷ form.Divide ∷ form.Equal ∷ form.Greater ∷ form.Identity ∷ form.Less ∷ form.Letter ∷ form.Modulo ∷ form.Multiply ∷ form.Name ∷ form.Nand ∷ form.Negation ∷ form.Nor ∷ form.Not ∷ form.Number ∷ form.OperatorName ∷ form.Or ∷ form.PhysicalLiteral ∷ form.Power ∷ form.Quoted ∷ form.Remainder ∷ form.RotateLeft ∷ form.RotateRight ∷ form.ShiftLeftArithmetic ∷ form.ShiftLeftLogical ∷ form.ShiftRightArithmetic ∷ form.ShiftRightLogical ∷ form.Subtract ∷ form.Unaffected ∷ form.Unequal ∷ form.Xnor ∷ form.Xor ∷ []; up = true; round = false; places = 74 ∷ []; many = false; template = step 153 (hole 0 74 done (step 155 done done)) done }
          ∷ [];
    }
    ∷
    -- 48: cinner
    record {
      level = 2;
      head = 268;
      tail = None;
      state = 0;
      rows = record { forms = form.ConcurrentAssignment ∷ []; up = false; round = false; places = 0 ∷ 75 ∷ 46 ∷ 47 ∷ []; many = false; template = hole 1 75 (step 212 (token ARROW (hole 2 46 done (hole 3 47 done (token SEMICOLON done)))) done) done }
          ∷ record { forms = form.EntityInstantiation ∷ []; up = true; round = false; places = 76 ∷ []; many = false; template = step 210 (hole 0 76 done done) done }
          ∷ record { forms = form.ForGenerate ∷ form.IfGenerate ∷ []; up = true; round = false; places = 77 ∷ []; many = false; template = step 211 (hole 0 77 done done) done }
          ∷ record { forms = form.AssertStatement ∷ form.ProcessStatement ∷ form.SelectedSignalAssignment ∷ []; up = true; round = false; places = 49 ∷ []; many = false; template = step 209 (hole 0 49 done done) done }
          ∷ [];
    }
    ∷
    -- 49: cun
    record {
      level = 1;
      head = 270;
      tail = None;
      state = 0;
      rows = record { forms = form.ProcessStatement ∷ []; up = false; round = false; places = 0 ∷ 78 ∷ 79 ∷ 7 ∷ 38 ∷ 20 ∷ []; many = false; template = step 213 (token WORD_PROCESS (hole 1 78 done (hole 2 79 done (hole 3 7 done (token WORD_BEGIN (hole 4 38 done (token WORD_END (token WORD_PROCESS (hole 5 20 done (token SEMICOLON done)))))))))) done }
          ∷ record { forms = form.SelectedSignalAssignment ∷ []; up = false; round = false; places = 0 ∷ 30 ∷ 81 ∷ 82 ∷ 46 ∷ 83 ∷ []; many = true; template = step 215 (token WORD_WITH (hole 1 30 done (token WORD_SELECT (hole 2 81 done (hole 3 82 done (token ARROW (hole 4 46 done (step 199 (hole 5 83 done (each 5 83 200 (COMMA ∷ []) 201 done)) (token SEMICOLON done))))))))) done }
          ∷ record { forms = form.AssertStatement ∷ []; up = true; round = false; places = 80 ∷ []; many = false; template = step 214 (hole 0 80 done done) done }
          ∷ [];
    }
    ∷
    -- 50: constraint
    record {
      level = 0;
      head = 190;
      tail = None;
      state = 0;
      rows = record { forms = form.IndexConstraint ∷ []; up = false; round = false; places = 0 ∷ 84 ∷ []; many = true; template = step 66 (token OPEN (step 253 (hole 1 84 done (each 1 84 254 (COMMA ∷ []) 255 done)) (token CLOSE done))) done }
          ∷ record { forms = form.RangeConstraint ∷ []; up = false; round = false; places = 0 ∷ 85 ∷ []; many = false; template = step 67 (token WORD_RANGE (hole 1 85 done done)) done }
          ∷ record { forms = form.Absent ∷ []; up = false; round = false; places = 0 ∷ []; many = false; template = step 68 done done }
          ∷ [];
    }
    ∷
    -- 51: andhead
    record {
      level = 5;
      head = 300;
      tail = Some 302;
      state = 2;
      rows = record { forms = form.And ∷ []; up = false; round = false; places = 0 ∷ 51 ∷ 52 ∷ []; many = false; template = hole 1 51 (step 276 (step 279 (token WORD_AND (hole 2 52 done done)) (step 277 rest done)) done) done }
          ∷ record { forms = form.Absolute ∷ form.Add ∷ form.Aggregate ∷ form.AtLeast ∷ form.AtMost ∷ form.Bits ∷ form.Concatenate ∷ form.Divide ∷ form.Equal ∷ form.Greater ∷ form.Identity ∷ form.Less ∷ form.Letter ∷ form.Modulo ∷ form.Multiply ∷ form.Name ∷ form.Nand ∷ form.Negation ∷ form.Nor ∷ form.Not ∷ form.Number ∷ form.OperatorName ∷ form.Or ∷ form.PhysicalLiteral ∷ form.Power ∷ form.Quoted ∷ form.Remainder ∷ form.RotateLeft ∷ form.RotateRight ∷ form.ShiftLeftArithmetic ∷ form.ShiftLeftLogical ∷ form.ShiftRightArithmetic ∷ form.ShiftRightLogical ∷ form.Subtract ∷ form.Unequal ∷ form.Xnor ∷ form.Xor ∷ []; up = true; round = false; places = 52 ∷ []; many = false; template = step 268 (hole 0 52 done (step 269 rest done)) done }
          ∷ [];
    }
    ∷
    -- 52: rel_op
    record {
      level = 4;
      head = 314;
      tail = None;
      state = 1;
      rows = record { forms = form.Absolute ∷ form.Add ∷ form.Aggregate ∷ form.And ∷ form.AtLeast ∷ form.AtMost ∷ form.Bits ∷ form.Concatenate ∷ form.Divide ∷ form.Equal ∷ form.Greater ∷ form.Identity ∷ form.Less ∷ form.Letter ∷ form.Modulo ∷ form.Multiply ∷ form.Name ∷ form.Nand ∷ form.Negation ∷ form.Nor ∷ form.Not ∷ form.Number ∷ form.OperatorName ∷ form.Or ∷ form.PhysicalLiteral ∷ form.Power ∷ form.Quoted ∷ form.Remainder ∷ form.RotateLeft ∷ form.RotateRight ∷ form.ShiftLeftArithmetic ∷ form.ShiftLeftLogical ∷ form.ShiftRightArithmetic ∷ form.ShiftRightLogical ∷ form.Subtract ∷ form.Unequal ∷ form.Xnor ∷ form.Xor ∷ []; up = true; round = false; places = 62 ∷ []; many = false; template = step 292 (step 300 (step 308 (step 311 (step 317 (step 324 (hole 0 62 done (step 328 done done)) (step 319 done done)) done) (step 313 done done)) (step 307 done done)) (step 299 done done)) done }
          ∷ [];
    }
    ∷
    -- 53: orhead
    record {
      level = 5;
      head = 300;
      tail = Some 305;
      state = 3;
      rows = record { forms = form.Or ∷ []; up = false; round = false; places = 0 ∷ 53 ∷ 52 ∷ []; many = false; template = hole 1 53 (step 280 (step 283 (token WORD_OR (hole 2 52 done done)) (step 281 rest done)) done) done }
          ∷ record { forms = form.Absolute ∷ form.Add ∷ form.Aggregate ∷ form.And ∷ form.AtLeast ∷ form.AtMost ∷ form.Bits ∷ form.Concatenate ∷ form.Divide ∷ form.Equal ∷ form.Greater ∷ form.Identity ∷ form.Less ∷ form.Letter ∷ form.Modulo ∷ form.Multiply ∷ form.Name ∷ form.Nand ∷ form.Negation ∷ form.Nor ∷ form.Not ∷ form.Number ∷ form.OperatorName ∷ form.PhysicalLiteral ∷ form.Power ∷ form.Quoted ∷ form.Remainder ∷ form.RotateLeft ∷ form.RotateRight ∷ form.ShiftLeftArithmetic ∷ form.ShiftLeftLogical ∷ form.ShiftRightArithmetic ∷ form.ShiftRightLogical ∷ form.Subtract ∷ form.Unequal ∷ form.Xnor ∷ form.Xor ∷ []; up = true; round = false; places = 52 ∷ []; many = false; template = step 268 (hole 0 52 done (step 270 rest done)) done }
          ∷ [];
    }
    ∷
    -- 54: xorhead
    record {
      level = 5;
      head = 300;
      tail = Some 308;
      state = 4;
      rows = record { forms = form.Xor ∷ []; up = false; round = false; places = 0 ∷ 54 ∷ 52 ∷ []; many = false; template = hole 1 54 (step 284 (step 287 (token WORD_XOR (hole 2 52 done done)) (step 285 rest done)) done) done }
          ∷ record { forms = form.Absolute ∷ form.Add ∷ form.Aggregate ∷ form.And ∷ form.AtLeast ∷ form.AtMost ∷ form.Bits ∷ form.Concatenate ∷ form.Divide ∷ form.Equal ∷ form.Greater ∷ form.Identity ∷ form.Less ∷ form.Letter ∷ form.Modulo ∷ form.Multiply ∷ form.Name ∷ form.Nand ∷ form.Negation ∷ form.Nor ∷ form.Not ∷ form.Number ∷ form.OperatorName ∷ form.Or ∷ form.PhysicalLiteral ∷ form.Power ∷ form.Quoted ∷ form.Remainder ∷ form.RotateLeft ∷ form.RotateRight ∷ form.ShiftLeftArithmetic ∷ form.ShiftLeftLogical ∷ form.ShiftRightArithmetic ∷ form.ShiftRightLogical ∷ form.Subtract ∷ form.Unequal ∷ form.Xnor ∷ []; up = true; round = false; places = 52 ∷ []; many = false; template = step 268 (hole 0 52 done (step 271 rest done)) done }
          ∷ [];
    }
    ∷
    -- 55: xnorhead
    record {
      level = 5;
      head = 300;
      tail = Some 311;
      state = 5;
      rows = record { forms = form.Xnor ∷ []; up = false; round = false; places = 0 ∷ 55 ∷ 52 ∷ []; many = false; template = hole 1 55 (step 288 (step 291 (token WORD_XNOR (hole 2 52 done done)) (step 289 rest done)) done) done }
          ∷ record { forms = form.Absolute ∷ form.Add ∷ form.Aggregate ∷ form.And ∷ form.AtLeast ∷ form.AtMost ∷ form.Bits ∷ form.Concatenate ∷ form.Divide ∷ form.Equal ∷ form.Greater ∷ form.Identity ∷ form.Less ∷ form.Letter ∷ form.Modulo ∷ form.Multiply ∷ form.Name ∷ form.Nand ∷ form.Negation ∷ form.Nor ∷ form.Not ∷ form.Number ∷ form.OperatorName ∷ form.Or ∷ form.PhysicalLiteral ∷ form.Power ∷ form.Quoted ∷ form.Remainder ∷ form.RotateLeft ∷ form.RotateRight ∷ form.ShiftLeftArithmetic ∷ form.ShiftLeftLogical ∷ form.ShiftRightArithmetic ∷ form.ShiftRightLogical ∷ form.Subtract ∷ form.Unequal ∷ form.Xor ∷ []; up = true; round = false; places = 52 ∷ []; many = false; template = step 268 (hole 0 52 done (step 272 rest done)) done }
          ∷ [];
    }
    ∷
    -- 56: simhead
    record {
      level = 5;
      head = 318;
      tail = Some 320;
      state = 6;
      rows = record { forms = form.Add ∷ []; up = false; round = false; places = 0 ∷ 56 ∷ 57 ∷ []; many = false; template = hole 1 56 (step 312 (step 314 (token PLUS (hole 2 57 done done)) rest) done) done }
          ∷ record { forms = form.Subtract ∷ []; up = false; round = false; places = 0 ∷ 56 ∷ 57 ∷ []; many = false; template = hole 1 56 (step 312 (step 315 (token MINUS (hole 2 57 done done)) rest) done) done }
          ∷ record { forms = form.Concatenate ∷ []; up = false; round = false; places = 0 ∷ 56 ∷ 57 ∷ []; many = false; template = hole 1 56 (step 312 (step 316 (token JOIN (hole 2 57 done done)) rest) done) done }
          ∷ record { forms = form.Absolute ∷ form.Aggregate ∷ form.And ∷ form.AtLeast ∷ form.AtMost ∷ form.Bits ∷ form.Divide ∷ form.Equal ∷ form.Greater ∷ form.Identity ∷ form.Less ∷ form.Letter ∷ form.Modulo ∷ form.Multiply ∷ form.Name ∷ form.Nand ∷ form.Negation ∷ form.Nor ∷ form.Not ∷ form.Number ∷ form.OperatorName ∷ form.Or ∷ form.PhysicalLiteral ∷ form.Power ∷ form.Quoted ∷ form.Remainder ∷ form.RotateLeft ∷ form.RotateRight ∷ form.ShiftLeftArithmetic ∷ form.ShiftLeftLogical ∷ form.ShiftRightArithmetic ∷ form.ShiftRightLogical ∷ form.Unequal ∷ form.Xnor ∷ form.Xor ∷ []; up = true; round = false; places = 57 ∷ []; many = false; template = step 308 (step 311 (hole 0 57 done done) rest) done }
          ∷ [];
    }
    ∷
    -- 57: term_op
    record {
      level = 4;
      head = 322;
      tail = None;
      state = 1;
      rows = record { forms = form.Absolute ∷ form.Add ∷ form.Aggregate ∷ form.And ∷ form.AtLeast ∷ form.AtMost ∷ form.Bits ∷ form.Concatenate ∷ form.Divide ∷ form.Equal ∷ form.Greater ∷ form.Identity ∷ form.Less ∷ form.Letter ∷ form.Modulo ∷ form.Multiply ∷ form.Name ∷ form.Nand ∷ form.Negation ∷ form.Nor ∷ form.Not ∷ form.Number ∷ form.OperatorName ∷ form.Or ∷ form.PhysicalLiteral ∷ form.Power ∷ form.Quoted ∷ form.Remainder ∷ form.RotateLeft ∷ form.RotateRight ∷ form.ShiftLeftArithmetic ∷ form.ShiftLeftLogical ∷ form.ShiftRightArithmetic ∷ form.ShiftRightLogical ∷ form.Subtract ∷ form.Unequal ∷ form.Xnor ∷ form.Xor ∷ []; up = true; round = false; places = 62 ∷ []; many = false; template = step 317 (step 324 (hole 0 62 done (step 328 done done)) (step 319 done done)) done }
          ∷ [];
    }
    ∷
    -- 58: termhead
    record {
      level = 5;
      head = 322;
      tail = Some 323;
      state = 7;
      rows = record { forms = form.Multiply ∷ []; up = false; round = false; places = 0 ∷ 58 ∷ 59 ∷ []; many = false; template = hole 1 58 (step 318 (step 320 (token TIMES (hole 2 59 done done)) rest) done) done }
          ∷ record { forms = form.Divide ∷ []; up = false; round = false; places = 0 ∷ 58 ∷ 59 ∷ []; many = false; template = hole 1 58 (step 318 (step 321 (token OVER (hole 2 59 done done)) rest) done) done }
          ∷ record { forms = form.Modulo ∷ []; up = false; round = false; places = 0 ∷ 58 ∷ 59 ∷ []; many = false; template = hole 1 58 (step 318 (step 322 (token WORD_MOD (hole 2 59 done done)) rest) done) done }
          ∷ record { forms = form.Remainder ∷ []; up = false; round = false; places = 0 ∷ 58 ∷ 59 ∷ []; many = false; template = hole 1 58 (step 318 (step 323 (token WORD_REM (hole 2 59 done done)) rest) done) done }
          ∷ record { forms = form.Absolute ∷ form.Add ∷ form.Aggregate ∷ form.And ∷ form.AtLeast ∷ form.AtMost ∷ form.Bits ∷ form.Concatenate ∷ form.Equal ∷ form.Greater ∷ form.Identity ∷ form.Less ∷ form.Letter ∷ form.Name ∷ form.Nand ∷ form.Negation ∷ form.Nor ∷ form.Not ∷ form.Number ∷ form.OperatorName ∷ form.Or ∷ form.PhysicalLiteral ∷ form.Power ∷ form.Quoted ∷ form.RotateLeft ∷ form.RotateRight ∷ form.ShiftLeftArithmetic ∷ form.ShiftLeftLogical ∷ form.ShiftRightArithmetic ∷ form.ShiftRightLogical ∷ form.Subtract ∷ form.Unequal ∷ form.Xnor ∷ form.Xor ∷ []; up = true; round = false; places = 59 ∷ []; many = false; template = step 317 (hole 0 59 done rest) done }
          ∷ [];
    }
    ∷
    -- 59: fac_op
    record {
      level = 4;
      head = 325;
      tail = None;
      state = 1;
      rows = record { forms = form.Absolute ∷ form.Add ∷ form.Aggregate ∷ form.And ∷ form.AtLeast ∷ form.AtMost ∷ form.Bits ∷ form.Concatenate ∷ form.Divide ∷ form.Equal ∷ form.Greater ∷ form.Identity ∷ form.Less ∷ form.Letter ∷ form.Modulo ∷ form.Multiply ∷ form.Name ∷ form.Nand ∷ form.Negation ∷ form.Nor ∷ form.Not ∷ form.Number ∷ form.OperatorName ∷ form.Or ∷ form.PhysicalLiteral ∷ form.Power ∷ form.Quoted ∷ form.Remainder ∷ form.RotateLeft ∷ form.RotateRight ∷ form.ShiftLeftArithmetic ∷ form.ShiftLeftLogical ∷ form.ShiftRightArithmetic ∷ form.ShiftRightLogical ∷ form.Subtract ∷ form.Unequal ∷ form.Xnor ∷ form.Xor ∷ []; up = true; round = false; places = 62 ∷ []; many = false; template = step 324 (hole 0 62 done (step 328 done done)) done }
          ∷ [];
    }
    ∷
    -- 60: shf_op
    record {
      level = 4;
      head = 316;
      tail = None;
      state = 1;
      rows = record { forms = form.Absolute ∷ form.Add ∷ form.Aggregate ∷ form.And ∷ form.AtLeast ∷ form.AtMost ∷ form.Bits ∷ form.Concatenate ∷ form.Divide ∷ form.Equal ∷ form.Greater ∷ form.Identity ∷ form.Less ∷ form.Letter ∷ form.Modulo ∷ form.Multiply ∷ form.Name ∷ form.Nand ∷ form.Negation ∷ form.Nor ∷ form.Not ∷ form.Number ∷ form.OperatorName ∷ form.Or ∷ form.PhysicalLiteral ∷ form.Power ∷ form.Quoted ∷ form.Remainder ∷ form.RotateLeft ∷ form.RotateRight ∷ form.ShiftLeftArithmetic ∷ form.ShiftLeftLogical ∷ form.ShiftRightArithmetic ∷ form.ShiftRightLogical ∷ form.Subtract ∷ form.Unequal ∷ form.Xnor ∷ form.Xor ∷ []; up = true; round = false; places = 62 ∷ []; many = false; template = step 300 (step 308 (step 311 (step 317 (step 324 (hole 0 62 done (step 328 done done)) (step 319 done done)) done) (step 313 done done)) (step 307 done done)) done }
          ∷ [];
    }
    ∷
    -- 61: sim_op
    record {
      level = 4;
      head = 318;
      tail = None;
      state = 1;
      rows = record { forms = form.Absolute ∷ form.Add ∷ form.Aggregate ∷ form.And ∷ form.AtLeast ∷ form.AtMost ∷ form.Bits ∷ form.Concatenate ∷ form.Divide ∷ form.Equal ∷ form.Greater ∷ form.Identity ∷ form.Less ∷ form.Letter ∷ form.Modulo ∷ form.Multiply ∷ form.Name ∷ form.Nand ∷ form.Negation ∷ form.Nor ∷ form.Not ∷ form.Number ∷ form.OperatorName ∷ form.Or ∷ form.PhysicalLiteral ∷ form.Power ∷ form.Quoted ∷ form.Remainder ∷ form.RotateLeft ∷ form.RotateRight ∷ form.ShiftLeftArithmetic ∷ form.ShiftLeftLogical ∷ form.ShiftRightArithmetic ∷ form.ShiftRightLogical ∷ form.Subtract ∷ form.Unequal ∷ form.Xnor ∷ form.Xor ∷ []; up = true; round = false; places = 62 ∷ []; many = false; template = step 308 (step 311 (step 317 (step 324 (hole 0 62 done (step 328 done done)) (step 319 done done)) done) (step 313 done done)) done }
          ∷ [];
    }
    ∷
    -- 62: prim_op
    record {
      level = 3;
      head = 327;
      tail = None;
      state = 1;
      rows = record { forms = form.Aggregate ∷ form.Bits ∷ form.Letter ∷ form.Name ∷ form.Number ∷ form.OperatorName ∷ form.PhysicalLiteral ∷ form.Quoted ∷ []; up = true; round = false; places = 63 ∷ []; many = false; template = hole 0 63 done done }
          ∷ record { forms = form.Absolute ∷ form.Add ∷ form.And ∷ form.AtLeast ∷ form.AtMost ∷ form.Concatenate ∷ form.Divide ∷ form.Equal ∷ form.Greater ∷ form.Identity ∷ form.Less ∷ form.Modulo ∷ form.Multiply ∷ form.Nand ∷ form.Negation ∷ form.Nor ∷ form.Not ∷ form.Or ∷ form.Power ∷ form.Remainder ∷ form.RotateLeft ∷ form.RotateRight ∷ form.ShiftLeftArithmetic ∷ form.ShiftLeftLogical ∷ form.ShiftRightArithmetic ∷ form.ShiftRightLogical ∷ form.Subtract ∷ form.Unequal ∷ form.Xnor ∷ form.Xor ∷ []; up = true; round = true; places = 30 ∷ []; many = false; template = step 333 (token OPEN (step 253 (step 258 (hole 0 30 done (step 261 done (step 263 done done))) (step 255 done done)) (token CLOSE done))) done }
          ∷ [];
    }
    ∷
    -- 63: prim
    record {
      level = 1;
      head = 327;
      tail = None;
      state = 0;
      rows = record { forms = form.PhysicalLiteral ∷ []; up = false; round = false; places = 0 ∷ 86 ∷ 6 ∷ []; many = false; template = step 329 (hole 1 86 done (step 335 (hole 2 6 done done) done)) done }
          ∷ record { forms = form.Number ∷ []; up = false; round = false; places = 0 ∷ []; many = false; template = step 329 (own kind.Number (step 336 done done)) done }
          ∷ record { forms = form.Letter ∷ []; up = false; round = false; places = 0 ∷ []; many = false; template = step 330 (own kind.Letter done) done }
          ∷ record { forms = form.OperatorName ∷ []; up = false; round = false; places = 0 ∷ 67 ∷ 73 ∷ []; many = true; template = step 331 (hole 1 67 done (step 337 (hole 2 73 done (each 2 73 245 [] 246 done)) done)) done }
          ∷ record { forms = form.Quoted ∷ []; up = false; round = false; places = 0 ∷ []; many = false; template = step 331 (own kind.Quoted (step 338 done done)) done }
          ∷ record { forms = form.Bits ∷ []; up = false; round = false; places = 0 ∷ []; many = false; template = step 332 (own kind.Bits done) done }
          ∷ record { forms = form.Aggregate ∷ []; up = false; round = false; places = 0 ∷ 84 ∷ []; many = true; template = step 333 (token OPEN (step 253 (hole 1 84 done (each 1 84 254 (COMMA ∷ []) 255 done)) (token CLOSE done))) done }
          ∷ record { forms = form.Name ∷ []; up = true; round = false; places = 82 ∷ []; many = false; template = step 334 (hole 0 82 done done) done }
          ∷ [];
    }
    ∷
    -- 64: lit
    record {
      level = 0;
      head = 210;
      tail = None;
      state = 0;
      rows = record { forms = form.Identifier ∷ []; up = false; round = false; places = 0 ∷ []; many = false; template = step 104 (own kind.Name done) done }
          ∷ record { forms = form.Letter ∷ []; up = false; round = false; places = 0 ∷ []; many = false; template = step 105 (own kind.Letter done) done }
          ∷ [];
    }
    ∷
    -- 65: index
    record {
      level = 3;
      head = 211;
      tail = None;
      state = 0;
      rows = record { forms = form.Ascending ∷ []; up = false; round = false; places = 0 ∷ 88 ∷ 88 ∷ []; many = false; template = step 106 (hole 1 88 done (step 107 (token WORD_TO (hole 2 88 done done)) done)) done }
          ∷ record { forms = form.Descending ∷ []; up = false; round = false; places = 0 ∷ 88 ∷ 88 ∷ []; many = false; template = step 106 (hole 1 88 done (step 108 (token WORD_DOWNTO (hole 2 88 done done)) done)) done }
          ∷ record { forms = form.UnconstrainedIndex ∷ []; up = false; round = false; places = 0 ∷ 30 ∷ []; many = false; template = step 106 (hole 1 30 done (step 109 (token WORD_RANGE (step 111 (token BOX done) done)) done)) done }
          ∷ record { forms = form.DiscreteSubtype ∷ []; up = false; round = false; places = 0 ∷ 30 ∷ 89 ∷ []; many = false; template = step 106 (hole 1 30 done (step 109 (token WORD_RANGE (step 112 (hole 2 89 done done) done)) done)) done }
          ∷ record { forms = form.Absolute ∷ form.Add ∷ form.Aggregate ∷ form.And ∷ form.AtLeast ∷ form.AtMost ∷ form.Bits ∷ form.Concatenate ∷ form.Divide ∷ form.Equal ∷ form.Greater ∷ form.Identity ∷ form.Less ∷ form.Letter ∷ form.Modulo ∷ form.Multiply ∷ form.Name ∷ form.Nand ∷ form.Negation ∷ form.Nor ∷ form.Not ∷ form.Number ∷ form.OperatorName ∷ form.Or ∷ form.PhysicalLiteral ∷ form.Power ∷ form.Quoted ∷ form.Remainder ∷ form.RotateLeft ∷ form.RotateRight ∷ form.ShiftLeftArithmetic ∷ form.ShiftLeftLogical ∷ form.ShiftRightArithmetic ∷ form.ShiftRightLogical ∷ form.Subtract ∷ form.Unequal ∷ form.Xnor ∷ form.Xor ∷ []; up = true; round = false; places = 30 ∷ []; many = false; template = step 106 (hole 0 30 done (step 110 done done)) done }
          ∷ [];
    }
    ∷
    -- 66: fields
    record {
      level = 0;
      head = 216;
      tail = None;
      state = 0;
      rows = record { forms = form.RecordElements ∷ []; up = false; round = false; places = 0 ∷ 90 ∷ []; many = true; template = step 116 (hole 1 90 done (each 1 90 117 [] 118 done)) done }
          ∷ [];
    }
    ∷
    -- 67: QUOTED
    record {
      level = 0;
      head = QUOTED;
      tail = None;
      state = 0;
      rows = record { forms = form.Quoted ∷ []; up = false; round = false; places = 0 ∷ []; many = false; template = own kind.Quoted done }
          ∷ [];
    }
    ∷
    -- 68: params
    record {
      level = 0;
      head = 185;
      tail = None;
      state = 0;
      rows = record { forms = form.ParameterList ∷ []; up = false; round = false; places = 0 ∷ 91 ∷ []; many = true; template = step 59 (token OPEN (hole 1 91 done (each 1 91 60 (SEMICOLON ∷ []) 61 (token CLOSE done)))) done }
          ∷ [];
    }
    ∷
    -- 69: sstmt
    record {
      level = 2;
      head = 229;
      tail = None;
      state = 0;
      rows = record { forms = form.SignalAssignment ∷ []; up = false; round = false; places = 0 ∷ 92 ∷ 46 ∷ 93 ∷ []; many = false; template = hole 1 92 (step 143 (token ARROW (hole 2 46 done (hole 3 93 done (token SEMICOLON done)))) done) done }
          ∷ record { forms = form.VariableAssignment ∷ []; up = false; round = false; places = 0 ∷ 92 ∷ 30 ∷ []; many = false; template = hole 1 92 (step 144 (token BECOMES (hole 2 30 done (token SEMICOLON done))) done) done }
          ∷ record { forms = form.LabelledStatement ∷ []; up = false; round = false; places = 0 ∷ 6 ∷ 94 ∷ []; many = false; template = step 135 (hole 1 6 done (step 137 (token COLON (step 139 (hole 2 94 done done) done)) done)) done }
          ∷ record { forms = form.AssertStatement ∷ form.CaseStatement ∷ form.ExitStatement ∷ form.ForLoop ∷ form.IfStatement ∷ form.LoopStatement ∷ form.NextStatement ∷ form.NullStatement ∷ form.ReportStatement ∷ form.ReturnStatement ∷ form.WaitStatement ∷ form.WhileLoop ∷ []; up = true; round = false; places = 95 ∷ []; many = false; template = step 136 (hole 0 95 done done) done }
          ∷ [];
    }
    ∷
    -- 70: fnword
    record {
      level = 0;
      head = 225;
      tail = None;
      state = 22;
      rows = record { forms = form.ClosingWord ∷ []; up = false; round = false; places = 0 ∷ []; many = false; template = step 128 (token WORD_FUNCTION done) done }
          ∷ record { forms = form.Absent ∷ []; up = false; round = false; places = 0 ∷ []; many = false; template = step 129 done done }
          ∷ [];
    }
    ∷
    -- 71: closingdesig
    record {
      level = 1;
      head = 226;
      tail = None;
      state = 0;
      rows = record { forms = form.Absent ∷ []; up = false; round = false; places = 0 ∷ []; many = false; template = step 131 done done }
          ∷ record { forms = form.Identifier ∷ form.Quoted ∷ []; up = true; round = false; places = 34 ∷ []; many = false; template = step 130 (hole 0 34 done done) done }
          ∷ [];
    }
    ∷
    -- 72: LETTER
    record {
      level = 0;
      head = LETTER;
      tail = None;
      state = 0;
      rows = record { forms = form.Letter ∷ []; up = false; round = false; places = 0 ∷ []; many = false; template = own kind.Letter done }
          ∷ [];
    }
    ∷
    -- 73: suf
    record {
      level = 0;
      head = 290;
      tail = None;
      state = 0;
      rows = record { forms = form.Selection ∷ []; up = false; round = false; places = 0 ∷ 40 ∷ []; many = false; template = step 247 (token DOT (hole 1 40 done done)) done }
          ∷ record { forms = form.Arguments ∷ []; up = false; round = false; places = 0 ∷ 84 ∷ []; many = true; template = step 248 (token OPEN (step 253 (hole 1 84 done (each 1 84 254 (COMMA ∷ []) 255 done)) (token CLOSE done))) done }
          ∷ record { forms = form.Attribute ∷ []; up = false; round = false; places = 0 ∷ 6 ∷ []; many = false; template = step 249 (token TICK (step 250 (hole 1 6 done done) done)) done }
          ∷ record { forms = form.RangeAttribute ∷ []; up = false; round = false; places = 0 ∷ []; many = false; template = step 249 (token TICK (step 251 (token WORD_RANGE done) done)) done }
          ∷ record { forms = form.Qualification ∷ []; up = false; round = false; places = 0 ∷ 84 ∷ []; many = true; template = step 249 (token TICK (step 252 (token OPEN (step 253 (hole 1 84 done (each 1 84 254 (COMMA ∷ []) 255 done)) (token CLOSE done))) done)) done }
          ∷ [];
    }
    ∷
    -- 74: wave
    record {
      level = 3;
      head = 236;
      tail = None;
      state = 0;
      rows = record { forms = form.Unaffected ∷ []; up = false; round = false; places = 0 ∷ []; many = false; template = step 148 (token WORD_UNAFFECTED done) done }
          ∷ record { forms = form.DelayedWaveform ∷ []; up = false; round = false; places = 0 ∷ 30 ∷ 30 ∷ []; many = false; template = step 149 (hole 1 30 done (step 151 (token WORD_AFTER (hole 2 30 done done)) done)) done }
          ∷ record { forms = form.Absolute ∷ form.Add ∷ form.Aggregate ∷ form.And ∷ form.AtLeast ∷ form.AtMost ∷ form.Bits ∷ form.Concatenate ∷ form.Divide ∷ form.Equal ∷ form.Greater ∷ form.Identity ∷ form.Less ∷ form.Letter ∷ form.Modulo ∷ form.Multiply ∷ form.Name ∷ form.Nand ∷ form.Negation ∷ form.Nor ∷ form.Not ∷ form.Number ∷ form.OperatorName ∷ form.Or ∷ form.PhysicalLiteral ∷ form.Power ∷ form.Quoted ∷ form.Remainder ∷ form.RotateLeft ∷ form.RotateRight ∷ form.ShiftLeftArithmetic ∷ form.ShiftLeftLogical ∷ form.ShiftRightArithmetic ∷ form.ShiftRightLogical ∷ form.Subtract ∷ form.Unequal ∷ form.Xnor ∷ form.Xor ∷ []; up = true; round = false; places = 30 ∷ []; many = false; template = step 149 (hole 0 30 done (step 152 done done)) done }
          ∷ [];
    }
    ∷
    -- 75: cinner_name
    record {
      level = 0;
      head = 268;
      tail = Some 269;
      state = 0;
      rows = record { forms = form.Name ∷ []; up = false; round = false; places = 0 ∷ 6 ∷ []; many = true; template = step 208 (hole 1 6 done (step 142 (each 1 73 245 [] 246 done) rest)) done }
          ∷ [];
    }
    ∷
    -- 76: inst
    record {
      level = 0;
      head = 274;
      tail = None;
      state = 0;
      rows = record { forms = form.EntityInstantiation ∷ []; up = false; round = false; places = 0 ∷ 22 ∷ 96 ∷ 97 ∷ 98 ∷ []; many = false; template = step 221 (token WORD_ENTITY (hole 1 22 done (hole 2 96 done (hole 3 97 done (hole 4 98 done (token SEMICOLON done)))))) done }
          ∷ [];
    }
    ∷
    -- 77: gen1
    record {
      level = 0;
      head = 277;
      tail = None;
      state = 0;
      rows = record { forms = form.IfGenerate ∷ []; up = false; round = false; places = 0 ∷ 30 ∷ 99 ∷ 100 ∷ 101 ∷ 20 ∷ []; many = false; template = step 226 (token WORD_IF (hole 1 30 done (token WORD_GENERATE (hole 2 99 done (hole 3 100 done (hole 4 101 done (step 234 (token WORD_END (token WORD_GENERATE (hole 5 20 done (token SEMICOLON done)))) done))))))) done }
          ∷ record { forms = form.ForGenerate ∷ []; up = false; round = false; places = 0 ∷ 6 ∷ 85 ∷ 99 ∷ 20 ∷ []; many = false; template = step 227 (token WORD_FOR (hole 1 6 done (token WORD_IN (hole 2 85 done (token WORD_GENERATE (hole 3 99 done (step 234 (token WORD_END (token WORD_GENERATE (hole 4 20 done (token SEMICOLON done)))) done))))))) done }
          ∷ [];
    }
    ∷
    -- 78: sensitivity
    record {
      level = 1;
      head = 271;
      tail = None;
      state = 15;
      rows = record { forms = form.Absent ∷ []; up = false; round = false; places = 0 ∷ []; many = false; template = step 217 done done }
          ∷ record { forms = form.SensitivityList ∷ []; up = true; round = false; places = 102 ∷ []; many = false; template = step 216 (token OPEN (hole 0 102 done (token CLOSE done))) done }
          ∷ [];
    }
    ∷
    -- 79: isword
    record {
      level = 0;
      head = 273;
      tail = None;
      state = 0;
      rows = record { forms = form.Is ∷ []; up = false; round = false; places = 0 ∷ []; many = false; template = step 219 (token WORD_IS done) done }
          ∷ record { forms = form.Absent ∷ []; up = false; round = false; places = 0 ∷ []; many = false; template = step 220 done done }
          ∷ [];
    }
    ∷
    -- 80: assert
    record {
      level = 0;
      head = 259;
      tail = None;
      state = 0;
      rows = record { forms = form.AssertStatement ∷ []; up = false; round = false; places = 0 ∷ 30 ∷ 103 ∷ 104 ∷ []; many = false; template = step 194 (token WORD_ASSERT (hole 1 30 done (hole 2 103 done (hole 3 104 done (token SEMICOLON done))))) done }
          ∷ [];
    }
    ∷
    -- 81: matching
    record {
      level = 0;
      head = 249;
      tail = None;
      state = 0;
      rows = record { forms = form.Absent ∷ []; up = false; round = false; places = 0 ∷ []; many = false; template = step 178 done done }
          ∷ [];
    }
    ∷
    -- 82: name
    record {
      level = 0;
      head = 288;
      tail = None;
      state = 0;
      rows = record { forms = form.Name ∷ []; up = false; round = false; places = 0 ∷ 6 ∷ []; many = true; template = step 244 (hole 1 6 done (step 142 (each 1 73 245 [] 246 done) done)) done }
          ∷ [];
    }
    ∷
    -- 83: sw
    record {
      level = 0;
      head = 264;
      tail = None;
      state = 0;
      rows = record { forms = form.SelectedWaveform ∷ []; up = false; round = false; places = 0 ∷ 74 ∷ 105 ∷ []; many = false; template = step 202 (hole 1 74 done (token WORD_WHEN (hole 2 105 done done))) done }
          ∷ [];
    }
    ∷
    -- 84: elem
    record {
      level = 3;
      head = 294;
      tail = None;
      state = 0;
      rows = record { forms = form.Ascending ∷ []; up = false; round = false; places = 0 ∷ 88 ∷ 88 ∷ []; many = false; template = step 258 (hole 1 88 done (step 259 (token WORD_TO (hole 2 88 done done)) (step 263 done done))) done }
          ∷ record { forms = form.Descending ∷ []; up = false; round = false; places = 0 ∷ 88 ∷ 88 ∷ []; many = false; template = step 258 (hole 1 88 done (step 260 (token WORD_DOWNTO (hole 2 88 done done)) (step 263 done done))) done }
          ∷ record { forms = form.Association ∷ []; up = false; round = false; places = 0 ∷ 106 ∷ 107 ∷ []; many = false; template = hole 1 106 (step 265 (token GIVES (hole 2 107 done done)) done) done }
          ∷ record { forms = form.Open ∷ []; up = false; round = false; places = 0 ∷ []; many = false; template = step 256 (token WORD_OPEN done) done }
          ∷ record { forms = form.OthersAssociation ∷ []; up = false; round = false; places = 0 ∷ 107 ∷ []; many = false; template = step 257 (token WORD_OTHERS (token GIVES (hole 1 107 done done))) done }
          ∷ record { forms = form.Absolute ∷ form.Add ∷ form.Aggregate ∷ form.And ∷ form.AtLeast ∷ form.AtMost ∷ form.Bits ∷ form.Concatenate ∷ form.Divide ∷ form.Equal ∷ form.Greater ∷ form.Identity ∷ form.Less ∷ form.Letter ∷ form.Modulo ∷ form.Multiply ∷ form.Name ∷ form.Nand ∷ form.Negation ∷ form.Nor ∷ form.Not ∷ form.Number ∷ form.OperatorName ∷ form.Or ∷ form.PhysicalLiteral ∷ form.Power ∷ form.Quoted ∷ form.Remainder ∷ form.RotateLeft ∷ form.RotateRight ∷ form.ShiftLeftArithmetic ∷ form.ShiftLeftLogical ∷ form.ShiftRightArithmetic ∷ form.ShiftRightLogical ∷ form.Subtract ∷ form.Unequal ∷ form.Xnor ∷ form.Xor ∷ []; up = true; round = false; places = 30 ∷ []; many = false; template = step 258 (hole 0 30 done (step 261 done (step 263 done done))) done }
          ∷ [];
    }
    ∷
    -- 85: rng
    record {
      level = 3;
      head = 286;
      tail = None;
      state = 0;
      rows = record { forms = form.Ascending ∷ []; up = false; round = false; places = 0 ∷ 88 ∷ 88 ∷ []; many = false; template = step 239 (hole 1 88 done (step 240 (token WORD_TO (hole 2 88 done done)) done)) done }
          ∷ record { forms = form.Descending ∷ []; up = false; round = false; places = 0 ∷ 88 ∷ 88 ∷ []; many = false; template = step 239 (hole 1 88 done (step 241 (token WORD_DOWNTO (hole 2 88 done done)) done)) done }
          ∷ record { forms = form.DiscreteSubtype ∷ []; up = false; round = false; places = 0 ∷ 30 ∷ 89 ∷ []; many = false; template = step 239 (hole 1 30 done (step 242 (token WORD_RANGE (hole 2 89 done done)) done)) done }
          ∷ record { forms = form.Absolute ∷ form.Add ∷ form.Aggregate ∷ form.And ∷ form.AtLeast ∷ form.AtMost ∷ form.Bits ∷ form.Concatenate ∷ form.Divide ∷ form.Equal ∷ form.Greater ∷ form.Identity ∷ form.Less ∷ form.Letter ∷ form.Modulo ∷ form.Multiply ∷ form.Name ∷ form.Nand ∷ form.Negation ∷ form.Nor ∷ form.Not ∷ form.Number ∷ form.OperatorName ∷ form.Or ∷ form.PhysicalLiteral ∷ form.Power ∷ form.Quoted ∷ form.Remainder ∷ form.RotateLeft ∷ form.RotateRight ∷ form.ShiftLeftArithmetic ∷ form.ShiftLeftLogical ∷ form.ShiftRightArithmetic ∷ form.ShiftRightLogical ∷ form.Subtract ∷ form.Unequal ∷ form.Xnor ∷ form.Xor ∷ []; up = true; round = false; places = 30 ∷ []; many = false; template = step 239 (hole 0 30 done (step 243 done done)) done }
          ∷ [];
    }
    ∷
    -- 86: NUMBER
    record {
      level = 0;
      head = NUMBER;
      tail = None;
      state = 0;
      rows = record { forms = form.Number ∷ []; up = false; round = false; places = 0 ∷ []; many = false; template = own kind.Number done }
          ∷ [];
    }
    ∷
    -- 87: BITS
    record {
      level = 0;
      head = BITS;
      tail = None;
      state = 0;
      rows = record { forms = form.Bits ∷ []; up = false; round = false; places = 0 ∷ []; many = false; template = own kind.Bits done }
          ∷ [];
    }
    ∷
    -- 88: expr_op
    record {
      level = 4;
      head = 300;
      tail = None;
      state = 1;
      rows = record { forms = form.Absolute ∷ form.Add ∷ form.Aggregate ∷ form.And ∷ form.AtLeast ∷ form.AtMost ∷ form.Bits ∷ form.Concatenate ∷ form.Divide ∷ form.Equal ∷ form.Greater ∷ form.Identity ∷ form.Less ∷ form.Letter ∷ form.Modulo ∷ form.Multiply ∷ form.Name ∷ form.Nand ∷ form.Negation ∷ form.Nor ∷ form.Not ∷ form.Number ∷ form.OperatorName ∷ form.Or ∷ form.PhysicalLiteral ∷ form.Power ∷ form.Quoted ∷ form.Remainder ∷ form.RotateLeft ∷ form.RotateRight ∷ form.ShiftLeftArithmetic ∷ form.ShiftLeftLogical ∷ form.ShiftRightArithmetic ∷ form.ShiftRightLogical ∷ form.Subtract ∷ form.Unequal ∷ form.Xnor ∷ form.Xor ∷ []; up = true; round = false; places = 62 ∷ []; many = false; template = step 268 (step 292 (step 300 (step 308 (step 311 (step 317 (step 324 (hole 0 62 done (step 328 done done)) (step 319 done done)) done) (step 313 done done)) (step 307 done done)) (step 299 done done)) (step 275 done done)) done }
          ∷ [];
    }
    ∷
    -- 89: bounds
    record {
      level = 0;
      head = 214;
      tail = None;
      state = 0;
      rows = record { forms = form.Ascending ∷ []; up = false; round = false; places = 0 ∷ 88 ∷ 88 ∷ []; many = false; template = step 113 (hole 1 88 done (step 114 (token WORD_TO (hole 2 88 done done)) done)) done }
          ∷ record { forms = form.Descending ∷ []; up = false; round = false; places = 0 ∷ 88 ∷ 88 ∷ []; many = false; template = step 113 (hole 1 88 done (step 115 (token WORD_DOWNTO (hole 2 88 done done)) done)) done }
          ∷ [];
    }
    ∷
    -- 90: field
    record {
      level = 0;
      head = 218;
      tail = None;
      state = 0;
      rows = record { forms = form.RecordElement ∷ []; up = false; round = false; places = 0 ∷ 28 ∷ 29 ∷ []; many = false; template = step 119 (hole 1 28 done (token COLON (hole 2 29 done (token SEMICOLON done)))) done }
          ∷ [];
    }
    ∷
    -- 91: par
    record {
      level = 0;
      head = 187;
      tail = None;
      state = 0;
      rows = record { forms = form.ParameterDeclaration ∷ []; up = false; round = false; places = 0 ∷ 41 ∷ 28 ∷ 42 ∷ 29 ∷ []; many = false; template = step 62 (hole 1 41 done (hole 2 28 done (token COLON (hole 3 42 done (hole 4 29 done done))))) done }
          ∷ [];
    }
    ∷
    -- 92: sstmt_name
    record {
      level = 0;
      head = 229;
      tail = Some 234;
      state = 0;
      rows = record { forms = form.Name ∷ []; up = false; round = false; places = 0 ∷ 6 ∷ []; many = true; template = step 135 (hole 1 6 done (step 138 (step 142 (each 1 73 245 [] 246 done) rest) done)) done }
          ∷ [];
    }
    ∷
    -- 93: plainwave
    record {
      level = 3;
      head = 237;
      tail = None;
      state = 0;
      rows = record { forms = form.DelayedWaveform ∷ []; up = false; round = false; places = 0 ∷ 30 ∷ 30 ∷ []; many = false; template = step 150 (hole 1 30 done (step 151 (token WORD_AFTER (hole 2 30 done done)) done)) done }
          ∷ record { forms = form.Absolute ∷ form.Add ∷ form.Aggregate ∷ form.And ∷ form.AtLeast ∷ form.AtMost ∷ form.Bits ∷ form.Concatenate ∷ form.Divide ∷ form.Equal ∷ form.Greater ∷ form.Identity ∷ form.Less ∷ form.Letter ∷ form.Modulo ∷ form.Multiply ∷ form.Name ∷ form.Nand ∷ form.Negation ∷ form.Nor ∷ form.Not ∷ form.Number ∷ form.OperatorName ∷ form.Or ∷ form.PhysicalLiteral ∷ form.Power ∷ form.Quoted ∷ form.Remainder ∷ form.RotateLeft ∷ form.RotateRight ∷ form.ShiftLeftArithmetic ∷ form.ShiftLeftLogical ∷ form.ShiftRightArithmetic ∷ form.ShiftRightLogical ∷ form.Subtract ∷ form.Unequal ∷ form.Xnor ∷ form.Xor ∷ []; up = true; round = false; places = 30 ∷ []; many = false; template = step 150 (hole 0 30 done (step 152 done done)) done }
          ∷ [];
    }
    ∷
    -- 94: sinner
    record {
      level = 2;
      head = 232;
      tail = None;
      state = 0;
      rows = record { forms = form.SignalAssignment ∷ []; up = false; round = false; places = 0 ∷ 108 ∷ 46 ∷ 93 ∷ []; many = false; template = hole 1 108 (step 143 (token ARROW (hole 2 46 done (hole 3 93 done (token SEMICOLON done)))) done) done }
          ∷ record { forms = form.VariableAssignment ∷ []; up = false; round = false; places = 0 ∷ 108 ∷ 30 ∷ []; many = false; template = hole 1 108 (step 144 (token BECOMES (hole 2 30 done (token SEMICOLON done))) done) done }
          ∷ record { forms = form.AssertStatement ∷ form.CaseStatement ∷ form.ExitStatement ∷ form.ForLoop ∷ form.IfStatement ∷ form.LoopStatement ∷ form.NextStatement ∷ form.NullStatement ∷ form.ReportStatement ∷ form.ReturnStatement ∷ form.WaitStatement ∷ form.WhileLoop ∷ []; up = true; round = false; places = 95 ∷ []; many = false; template = step 141 (hole 0 95 done done) done }
          ∷ [];
    }
    ∷
    -- 95: sun
    record {
      level = 1;
      head = 244;
      tail = None;
      state = 0;
      rows = record { forms = form.IfStatement ∷ []; up = false; round = false; places = 0 ∷ 30 ∷ 38 ∷ 109 ∷ 110 ∷ 20 ∷ []; many = false; template = step 160 (token WORD_IF (hole 1 30 done (token WORD_THEN (hole 2 38 done (hole 3 109 done (hole 4 110 done (token WORD_END (token WORD_IF (hole 5 20 done (token SEMICOLON done)))))))))) done }
          ∷ record { forms = form.CaseStatement ∷ []; up = false; round = false; places = 0 ∷ 81 ∷ 30 ∷ 111 ∷ 81 ∷ 20 ∷ []; many = false; template = step 161 (token WORD_CASE (hole 1 81 done (hole 2 30 done (token WORD_IS (hole 3 111 done (token WORD_END (token WORD_CASE (hole 4 81 done (hole 5 20 done (token SEMICOLON done)))))))))) done }
          ∷ record { forms = form.ForLoop ∷ []; up = false; round = false; places = 0 ∷ 6 ∷ 85 ∷ 38 ∷ 20 ∷ []; many = false; template = step 162 (token WORD_FOR (hole 1 6 done (token WORD_IN (hole 2 85 done (step 183 (token WORD_LOOP (hole 3 38 done (token WORD_END (token WORD_LOOP (hole 4 20 done (token SEMICOLON done)))))) done))))) done }
          ∷ record { forms = form.WhileLoop ∷ []; up = false; round = false; places = 0 ∷ 30 ∷ 38 ∷ 20 ∷ []; many = false; template = step 163 (token WORD_WHILE (hole 1 30 done (step 183 (token WORD_LOOP (hole 2 38 done (token WORD_END (token WORD_LOOP (hole 3 20 done (token SEMICOLON done)))))) done))) done }
          ∷ record { forms = form.LoopStatement ∷ []; up = false; round = false; places = 0 ∷ 38 ∷ 20 ∷ []; many = false; template = step 164 (step 183 (token WORD_LOOP (hole 1 38 done (token WORD_END (token WORD_LOOP (hole 2 20 done (token SEMICOLON done)))))) done) done }
          ∷ record { forms = form.WaitStatement ∷ []; up = false; round = false; places = 0 ∷ 112 ∷ 113 ∷ 114 ∷ []; many = false; template = step 165 (token WORD_WAIT (hole 1 112 done (hole 2 113 done (hole 3 114 done (token SEMICOLON done))))) done }
          ∷ record { forms = form.ReportStatement ∷ []; up = false; round = false; places = 0 ∷ 30 ∷ 104 ∷ []; many = false; template = step 167 (token WORD_REPORT (hole 1 30 done (hole 2 104 done (token SEMICOLON done)))) done }
          ∷ record { forms = form.ReturnStatement ∷ []; up = false; round = false; places = 0 ∷ 115 ∷ []; many = false; template = step 168 (token WORD_RETURN (hole 1 115 done (token SEMICOLON done))) done }
          ∷ record { forms = form.NextStatement ∷ []; up = false; round = false; places = 0 ∷ 20 ∷ 116 ∷ []; many = false; template = step 169 (token WORD_NEXT (hole 1 20 done (hole 2 116 done (token SEMICOLON done)))) done }
          ∷ record { forms = form.ExitStatement ∷ []; up = false; round = false; places = 0 ∷ 20 ∷ 116 ∷ []; many = false; template = step 170 (token WORD_EXIT (hole 1 20 done (hole 2 116 done (token SEMICOLON done)))) done }
          ∷ record { forms = form.NullStatement ∷ []; up = false; round = false; places = 0 ∷ []; many = false; template = step 171 (token WORD_NULL (token SEMICOLON done)) done }
          ∷ record { forms = form.AssertStatement ∷ []; up = true; round = false; places = 80 ∷ []; many = false; template = step 166 (hole 0 80 done done) done }
          ∷ [];
    }
    ∷
    -- 96: archname
    record {
      level = 0;
      head = 275;
      tail = None;
      state = 16;
      rows = record { forms = form.Identifier ∷ []; up = false; round = false; places = 0 ∷ []; many = false; template = step 222 (token OPEN (own kind.Name (token CLOSE done))) done }
          ∷ record { forms = form.Absent ∷ []; up = false; round = false; places = 0 ∷ []; many = false; template = step 223 done done }
          ∷ [];
    }
    ∷
    -- 97: gmapopt
    record {
      level = 1;
      head = 205;
      tail = None;
      state = 0;
      rows = record { forms = form.Absent ∷ []; up = false; round = false; places = 0 ∷ []; many = false; template = step 90 done done }
          ∷ record { forms = form.GenericMap ∷ []; up = true; round = false; places = 117 ∷ []; many = false; template = step 89 (hole 0 117 done done) done }
          ∷ [];
    }
    ∷
    -- 98: pmapopt
    record {
      level = 0;
      head = 276;
      tail = None;
      state = 0;
      rows = record { forms = form.PortMap ∷ []; up = false; round = false; places = 0 ∷ 84 ∷ []; many = true; template = step 224 (token WORD_PORT (token WORD_MAP (token OPEN (step 253 (hole 1 84 done (each 1 84 254 (COMMA ∷ []) 255 done)) (token CLOSE done))))) done }
          ∷ record { forms = form.Absent ∷ []; up = false; round = false; places = 0 ∷ []; many = false; template = step 225 done done }
          ∷ [];
    }
    ∷
    -- 99: gbody
    record {
      level = 0;
      head = 281;
      tail = None;
      state = 0;
      rows = record { forms = form.GenerateBody ∷ []; up = false; round = false; places = 0 ∷ 118 ∷ []; many = true; template = step 231 (hole 1 118 done (each 1 26 74 [] 75 done)) done }
          ∷ [];
    }
    ∷
    -- 100: gelsifs
    record {
      level = 0;
      head = 278;
      tail = None;
      state = 0;
      rows = record { forms = form.ElsifGenerates ∷ []; up = false; round = false; places = 0 ∷ []; many = false; template = step 228 (step 229 done done) done }
          ∷ [];
    }
    ∷
    -- 101: gelse
    record {
      level = 0;
      head = 280;
      tail = None;
      state = 0;
      rows = record { forms = form.Absent ∷ []; up = false; round = false; places = 0 ∷ []; many = false; template = step 230 done done }
          ∷ [];
    }
    ∷
    -- 102: sensitive
    record {
      level = 0;
      head = 272;
      tail = None;
      state = 0;
      rows = record { forms = form.SensitivityList ∷ []; up = false; round = false; places = 0 ∷ 82 ∷ []; many = true; template = step 218 (hole 1 82 done (each 1 82 186 (COMMA ∷ []) 187 done)) done }
          ∷ [];
    }
    ∷
    -- 103: reported
    record {
      level = 3;
      head = 260;
      tail = None;
      state = 9;
      rows = record { forms = form.Absent ∷ []; up = false; round = false; places = 0 ∷ []; many = false; template = step 196 done done }
          ∷ record { forms = form.Absolute ∷ form.Add ∷ form.Aggregate ∷ form.And ∷ form.AtLeast ∷ form.AtMost ∷ form.Bits ∷ form.Concatenate ∷ form.Divide ∷ form.Equal ∷ form.Greater ∷ form.Identity ∷ form.Less ∷ form.Letter ∷ form.Modulo ∷ form.Multiply ∷ form.Name ∷ form.Nand ∷ form.Negation ∷ form.Nor ∷ form.Not ∷ form.Number ∷ form.OperatorName ∷ form.Or ∷ form.PhysicalLiteral ∷ form.Power ∷ form.Quoted ∷ form.Remainder ∷ form.RotateLeft ∷ form.RotateRight ∷ form.ShiftLeftArithmetic ∷ form.ShiftLeftLogical ∷ form.ShiftRightArithmetic ∷ form.ShiftRightLogical ∷ form.Subtract ∷ form.Unequal ∷ form.Xnor ∷ form.Xor ∷ []; up = true; round = false; places = 30 ∷ []; many = false; template = step 195 (token WORD_REPORT (hole 0 30 done done)) done }
          ∷ [];
    }
    ∷
    -- 104: severity
    record {
      level = 3;
      head = 261;
      tail = None;
      state = 10;
      rows = record { forms = form.Absent ∷ []; up = false; round = false; places = 0 ∷ []; many = false; template = step 198 done done }
          ∷ record { forms = form.Absolute ∷ form.Add ∷ form.Aggregate ∷ form.And ∷ form.AtLeast ∷ form.AtMost ∷ form.Bits ∷ form.Concatenate ∷ form.Divide ∷ form.Equal ∷ form.Greater ∷ form.Identity ∷ form.Less ∷ form.Letter ∷ form.Modulo ∷ form.Multiply ∷ form.Name ∷ form.Nand ∷ form.Negation ∷ form.Nor ∷ form.Not ∷ form.Number ∷ form.OperatorName ∷ form.Or ∷ form.PhysicalLiteral ∷ form.Power ∷ form.Quoted ∷ form.Remainder ∷ form.RotateLeft ∷ form.RotateRight ∷ form.ShiftLeftArithmetic ∷ form.ShiftLeftLogical ∷ form.ShiftRightArithmetic ∷ form.ShiftRightLogical ∷ form.Subtract ∷ form.Unequal ∷ form.Xnor ∷ form.Xor ∷ []; up = true; round = false; places = 30 ∷ []; many = false; template = step 197 (token WORD_SEVERITY (hole 0 30 done done)) done }
          ∷ [];
    }
    ∷
    -- 105: chs
    record {
      level = 0;
      head = 284;
      tail = None;
      state = 0;
      rows = record { forms = form.Others ∷ []; up = false; round = false; places = 0 ∷ []; many = false; template = step 235 (token WORD_OTHERS done) done }
          ∷ record { forms = form.Choices ∷ []; up = false; round = false; places = 0 ∷ 85 ∷ []; many = true; template = step 236 (hole 1 85 done (each 1 85 237 (BAR ∷ []) 238 done)) done }
          ∷ [];
    }
    ∷
    -- 106: choices
    record {
      level = 0;
      head = 294;
      tail = Some 298;
      state = 0;
      rows = record { forms = form.AssociationChoices ∷ []; up = false; round = false; places = 0 ∷ 119 ∷ []; many = true; template = hole 1 119 (step 262 (step 264 (each 1 85 237 (BAR ∷ []) 238 done) rest) done) done }
          ∷ [];
    }
    ∷
    -- 107: act
    record {
      level = 3;
      head = 299;
      tail = None;
      state = 0;
      rows = record { forms = form.Open ∷ []; up = false; round = false; places = 0 ∷ []; many = false; template = step 266 (token WORD_OPEN done) done }
          ∷ record { forms = form.Absolute ∷ form.Add ∷ form.Aggregate ∷ form.And ∷ form.AtLeast ∷ form.AtMost ∷ form.Bits ∷ form.Concatenate ∷ form.Divide ∷ form.Equal ∷ form.Greater ∷ form.Identity ∷ form.Less ∷ form.Letter ∷ form.Modulo ∷ form.Multiply ∷ form.Name ∷ form.Nand ∷ form.Negation ∷ form.Nor ∷ form.Not ∷ form.Number ∷ form.OperatorName ∷ form.Or ∷ form.PhysicalLiteral ∷ form.Power ∷ form.Quoted ∷ form.Remainder ∷ form.RotateLeft ∷ form.RotateRight ∷ form.ShiftLeftArithmetic ∷ form.ShiftLeftLogical ∷ form.ShiftRightArithmetic ∷ form.ShiftRightLogical ∷ form.Subtract ∷ form.Unequal ∷ form.Xnor ∷ form.Xor ∷ []; up = true; round = false; places = 30 ∷ []; many = false; template = step 267 (hole 0 30 done done) done }
          ∷ [];
    }
    ∷
    -- 108: sinner_name
    record {
      level = 0;
      head = 232;
      tail = Some 234;
      state = 0;
      rows = record { forms = form.Name ∷ []; up = false; round = false; places = 0 ∷ 6 ∷ []; many = true; template = step 140 (hole 1 6 done (step 142 (each 1 73 245 [] 246 done) rest)) done }
          ∷ [];
    }
    ∷
    -- 109: elsifs
    record {
      level = 0;
      head = 245;
      tail = None;
      state = 0;
      rows = record { forms = form.ElsifBranches ∷ []; up = false; round = false; places = 0 ∷ []; many = true; template = step 172 (each 0 120 173 [] 174 done) done }
          ∷ [];
    }
    ∷
    -- 110: else
    record {
      level = 0;
      head = 248;
      tail = None;
      state = 0;
      rows = record { forms = form.ElseBranch ∷ []; up = false; round = false; places = 0 ∷ []; many = true; template = step 176 (token WORD_ELSE (each 0 69 133 [] 134 done)) done }
          ∷ record { forms = form.Absent ∷ []; up = false; round = false; places = 0 ∷ []; many = false; template = step 177 done done }
          ∷ [];
    }
    ∷
    -- 111: cases
    record {
      level = 0;
      head = 250;
      tail = None;
      state = 0;
      rows = record { forms = form.CaseAlternatives ∷ []; up = false; round = false; places = 0 ∷ []; many = true; template = step 179 (each 0 121 180 [] 181 done) done }
          ∷ [];
    }
    ∷
    -- 112: waiton
    record {
      level = 0;
      head = 254;
      tail = None;
      state = 11;
      rows = record { forms = form.SensitivityList ∷ []; up = false; round = false; places = 0 ∷ 82 ∷ []; many = true; template = step 184 (token WORD_ON (hole 1 82 done (each 1 82 186 (COMMA ∷ []) 187 done))) done }
          ∷ record { forms = form.Absent ∷ []; up = false; round = false; places = 0 ∷ []; many = false; template = step 185 done done }
          ∷ [];
    }
    ∷
    -- 113: waituntil
    record {
      level = 3;
      head = 256;
      tail = None;
      state = 12;
      rows = record { forms = form.Absent ∷ []; up = false; round = false; places = 0 ∷ []; many = false; template = step 189 done done }
          ∷ record { forms = form.Absolute ∷ form.Add ∷ form.Aggregate ∷ form.And ∷ form.AtLeast ∷ form.AtMost ∷ form.Bits ∷ form.Concatenate ∷ form.Divide ∷ form.Equal ∷ form.Greater ∷ form.Identity ∷ form.Less ∷ form.Letter ∷ form.Modulo ∷ form.Multiply ∷ form.Name ∷ form.Nand ∷ form.Negation ∷ form.Nor ∷ form.Not ∷ form.Number ∷ form.OperatorName ∷ form.Or ∷ form.PhysicalLiteral ∷ form.Power ∷ form.Quoted ∷ form.Remainder ∷ form.RotateLeft ∷ form.RotateRight ∷ form.ShiftLeftArithmetic ∷ form.ShiftLeftLogical ∷ form.ShiftRightArithmetic ∷ form.ShiftRightLogical ∷ form.Subtract ∷ form.Unequal ∷ form.Xnor ∷ form.Xor ∷ []; up = true; round = false; places = 30 ∷ []; many = false; template = step 188 (token WORD_UNTIL (hole 0 30 done done)) done }
          ∷ [];
    }
    ∷
    -- 114: waitfor
    record {
      level = 3;
      head = 257;
      tail = None;
      state = 13;
      rows = record { forms = form.Absent ∷ []; up = false; round = false; places = 0 ∷ []; many = false; template = step 191 done done }
          ∷ record { forms = form.Absolute ∷ form.Add ∷ form.Aggregate ∷ form.And ∷ form.AtLeast ∷ form.AtMost ∷ form.Bits ∷ form.Concatenate ∷ form.Divide ∷ form.Equal ∷ form.Greater ∷ form.Identity ∷ form.Less ∷ form.Letter ∷ form.Modulo ∷ form.Multiply ∷ form.Name ∷ form.Nand ∷ form.Negation ∷ form.Nor ∷ form.Not ∷ form.Number ∷ form.OperatorName ∷ form.Or ∷ form.PhysicalLiteral ∷ form.Power ∷ form.Quoted ∷ form.Remainder ∷ form.RotateLeft ∷ form.RotateRight ∷ form.ShiftLeftArithmetic ∷ form.ShiftLeftLogical ∷ form.ShiftRightArithmetic ∷ form.ShiftRightLogical ∷ form.Subtract ∷ form.Unequal ∷ form.Xnor ∷ form.Xor ∷ []; up = true; round = false; places = 30 ∷ []; many = false; template = step 190 (token WORD_FOR (hole 0 30 done done)) done }
          ∷ [];
    }
    ∷
    -- 115: rw
    record {
      level = 3;
      head = 242;
      tail = None;
      state = 0;
      rows = record { forms = form.Absolute ∷ form.Add ∷ form.Aggregate ∷ form.And ∷ form.AtLeast ∷ form.AtMost ∷ form.Bits ∷ form.Concatenate ∷ form.Divide ∷ form.Equal ∷ form.Greater ∷ form.Identity ∷ form.Less ∷ form.Letter ∷ form.Modulo ∷ form.Multiply ∷ form.Name ∷ form.Nand ∷ form.Negation ∷ form.Nor ∷ form.Not ∷ form.Number ∷ form.OperatorName ∷ form.Or ∷ form.PhysicalLiteral ∷ form.Power ∷ form.Quoted ∷ form.Remainder ∷ form.RotateLeft ∷ form.RotateRight ∷ form.ShiftLeftArithmetic ∷ form.ShiftLeftLogical ∷ form.ShiftRightArithmetic ∷ form.ShiftRightLogical ∷ form.Subtract ∷ form.Unequal ∷ form.Xnor ∷ form.Xor ∷ []; up = true; round = false; places = 30 ∷ []; many = false; template = step 158 (hole 0 30 done (step 159 done done)) done }
          ∷ [];
    }
    ∷
    -- 116: whencond
    record {
      level = 3;
      head = 258;
      tail = None;
      state = 14;
      rows = record { forms = form.Absent ∷ []; up = false; round = false; places = 0 ∷ []; many = false; template = step 193 done done }
          ∷ record { forms = form.Absolute ∷ form.Add ∷ form.Aggregate ∷ form.And ∷ form.AtLeast ∷ form.AtMost ∷ form.Bits ∷ form.Concatenate ∷ form.Divide ∷ form.Equal ∷ form.Greater ∷ form.Identity ∷ form.Less ∷ form.Letter ∷ form.Modulo ∷ form.Multiply ∷ form.Name ∷ form.Nand ∷ form.Negation ∷ form.Nor ∷ form.Not ∷ form.Number ∷ form.OperatorName ∷ form.Or ∷ form.PhysicalLiteral ∷ form.Power ∷ form.Quoted ∷ form.Remainder ∷ form.RotateLeft ∷ form.RotateRight ∷ form.ShiftLeftArithmetic ∷ form.ShiftLeftLogical ∷ form.ShiftRightArithmetic ∷ form.ShiftRightLogical ∷ form.Subtract ∷ form.Unequal ∷ form.Xnor ∷ form.Xor ∷ []; up = true; round = false; places = 30 ∷ []; many = false; template = step 192 (token WORD_WHEN (hole 0 30 done done)) done }
          ∷ [];
    }
    ∷
    -- 117: gmap
    record {
      level = 0;
      head = 206;
      tail = None;
      state = 0;
      rows = record { forms = form.GenericMap ∷ []; up = false; round = false; places = 0 ∷ 84 ∷ []; many = true; template = step 91 (token WORD_GENERIC (token WORD_MAP (token OPEN (step 253 (hole 1 84 done (each 1 84 254 (COMMA ∷ []) 255 done)) (token CLOSE done))))) done }
          ∷ [];
    }
    ∷
    -- 118: gdecls
    record {
      level = 1;
      head = 282;
      tail = None;
      state = 17;
      rows = record { forms = form.Absent ∷ []; up = false; round = false; places = 0 ∷ []; many = false; template = step 233 done done }
          ∷ record { forms = form.DeclarativePart ∷ []; up = true; round = false; places = 7 ∷ []; many = false; template = step 232 (hole 0 7 done (token WORD_BEGIN done)) done }
          ∷ [];
    }
    ∷
    -- 119: first_choice
    record {
      level = 3;
      head = 294;
      tail = Some 296;
      state = 0;
      rows = record { forms = form.Ascending ∷ []; up = false; round = false; places = 0 ∷ 88 ∷ 88 ∷ []; many = false; template = step 258 (hole 1 88 done (step 259 (token WORD_TO (hole 2 88 done done)) rest)) done }
          ∷ record { forms = form.Descending ∷ []; up = false; round = false; places = 0 ∷ 88 ∷ 88 ∷ []; many = false; template = step 258 (hole 1 88 done (step 260 (token WORD_DOWNTO (hole 2 88 done done)) rest)) done }
          ∷ record { forms = form.Absolute ∷ form.Add ∷ form.Aggregate ∷ form.And ∷ form.AtLeast ∷ form.AtMost ∷ form.Bits ∷ form.Concatenate ∷ form.Divide ∷ form.Equal ∷ form.Greater ∷ form.Identity ∷ form.Less ∷ form.Letter ∷ form.Modulo ∷ form.Multiply ∷ form.Name ∷ form.Nand ∷ form.Negation ∷ form.Nor ∷ form.Not ∷ form.Number ∷ form.OperatorName ∷ form.Or ∷ form.PhysicalLiteral ∷ form.Power ∷ form.Quoted ∷ form.Remainder ∷ form.RotateLeft ∷ form.RotateRight ∷ form.ShiftLeftArithmetic ∷ form.ShiftLeftLogical ∷ form.ShiftRightArithmetic ∷ form.ShiftRightLogical ∷ form.Subtract ∷ form.Unequal ∷ form.Xnor ∷ form.Xor ∷ []; up = true; round = false; places = 30 ∷ []; many = false; template = step 258 (hole 0 30 done (step 261 done rest)) done }
          ∷ [];
    }
    ∷
    -- 120: elsif
    record {
      level = 0;
      head = 247;
      tail = None;
      state = 0;
      rows = record { forms = form.ElsifBranch ∷ []; up = false; round = false; places = 0 ∷ 30 ∷ 38 ∷ []; many = false; template = step 175 (token WORD_ELSIF (hole 1 30 done (token WORD_THEN (hole 2 38 done done)))) done }
          ∷ [];
    }
    ∷
    -- 121: case
    record {
      level = 0;
      head = 252;
      tail = None;
      state = 0;
      rows = record { forms = form.CaseAlternative ∷ []; up = false; round = false; places = 0 ∷ 105 ∷ 38 ∷ []; many = false; template = step 182 (token WORD_WHEN (hole 1 105 done (token GIVES (hole 2 38 done done)))) done }
          ∷ [];
    }
    ∷ []

-- the units of a file
abbrev pub file_row : FileRow
file_row = record { production = 0; place = 0; more = 1; end = 2 }
